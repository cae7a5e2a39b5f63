use Rattle.session_text.proofs.threads.+Printer-entries_in_parts+fn-Printer-entries_in_parts-back+fn-Printer-entries_in_parts-front.Given as goal

abbrev pub decreases-Printer::entries_in_parts : goal.decreases-Printer::entries_in_parts
decreases-Printer::entries_in_parts g l = l.halvings

abbrev pub decreases-back : goal.decreases-back
decreases-back g l = l.left

abbrev pub decreases-front : goal.decreases-front
decreases-front g l = l.left
