-- A write that is put is the last of the writes.
use Rattle.std.proofs.Common.{◌∙◌, ap}
use Rattle.write_overlay.specs.Layered.{byte_laid, run_under}
use Rattle.write_overlay.proofs.Layering.{lays_more}
use Rattle.write_overlay.proofs.layers.Layers.put.Goals as goal

pub returns : goal.returns
returns c = λ writes lays.
    lays_more c.args.self.now c.put_made.new.self c.args.write.now writes
    (λ q x.
    c.put_made.ensures q x
    ∙ ap (λ n. run_under n c.offset-2.result c.bytes-2.result.now q x (byte_laid c.make_pages.new.self q x)) c.object-2.ensures
    ∙ ap (λ n. run_under c.args.write.now.object n c.bytes-2.result.now q x (byte_laid c.make_pages.new.self q x)) c.offset-2.ensures
    ∙ ap (λ bs. run_under c.args.write.now.object c.args.write.now.offset bs q x (byte_laid c.make_pages.new.self q x)) c.bytes-2.ensures
    ∙ ap (run_under c.args.write.now.object c.args.write.now.offset c.args.write.now.bytes q x) (c.make_pages.ensures.same q x)) lays
