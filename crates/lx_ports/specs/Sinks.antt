-- A sink for text: what it tells of itself.
use Rattle.std.specs.Prelude.{ℕ, List, Option}

-- All the bytes that it took so far, where they are told (standard output tells nothing of them), and how often a put
-- has failed.
pub record SinkState : Type 0 where
  pub contents : Option (List ℕ)
  pub faults : ℕ
