use Rattle.std.proofs.Common.{◌≡◌, ◌<◌, ◌&&◌, false, ℕ, List, length, Some, not, refl, sym, ap, subst, ◌∙◌}
use Rattle.std.specs.Prelude.{slice_get}
use Rattle.std.proofs.Math.ListN.{get_or}
use Rattle.std.proofs.lemmas.Option.{slice_get-get_or}
use Rattle.p2p_directory.specs.Received.{Wire}
use Rattle.p2p_driver.specs.Drivers.{wire_with}
use Rattle.std.specs.Result.{is_ok}
use Rattle.p2p_driver.specs.Timers.{DialsOne}
use Rattle.p2p_driver.specs.declared.driver.dialing.Dialed.{Dialed}
use Rattle.p2p_driver.specs.declared.driver.dialing.Dialed.TheVariants as dialed
use Rattle.p2p_driver.proofs.DrivingTimers.{is_memory, dials_first, dials_next}
use Rattle.p2p_driver.proofs.driver.Driver.dial_all_due.Given as given
use Rattle.p2p_driver.proofs.driver.Driver.dial_all_due.Goals as goal
use Rattle.p2p_driver.proofs.driver.Driver.dial_all_due.Goals.{in-Memory, in_default}

-- how keys are, by the type of the keys
abbrev wire_in : (g : given.Over) → Wire g.row.C.Denot g.row.C-Signature.Denot
wire_in g = wire_with g.C.PublicKey.verifies g.C.FixedBytes.spelled g.C.Signature.FixedBytes.spelled g.C.FixedBytes.SIZE
    g.C.FixedBytes.value g.C.Signature.FixedBytes.SIZE g.C.Signature.FixedBytes.value

-- a word stands at the position of the loop
at_index : (words : List ℕ) (i : ℕ) (x : ℕ) → i < length words → x ≡ get_or words i 0 → slice_get words i ≡ Some x
at_index words i x below is = slice_get-get_or words i 0 below ∙ ap Some (sym is)

-- memory was there
other_than : (d : Dialed) → ¬ (d ≡ dialed.Memory) → is_memory d ≡ false
other_than dialed.Begun isnt = refl
other_than dialed.Memory isnt = absurd (isnt refl)
other_than dialed.Nobody isnt = refl

pub words-preserved : goal.words-preserved
words-preserved g c = elim c.match-dial.branch [
  | in-Memory w ↦ dials_next g.C.Ord.cmp (wire_in g) c.args.now c.args.words.now c.args.self.now c.words.self c.dial.new.self c.words.all c.match-dial.all c.words.word-index
      _ dialed.Memory (at_index c.args.words.now c.words.word-index _ c.words-test.true refl) c.words.invariant
      (subst (λ d. DialsOne g.C.Ord.cmp (wire_in g) c.args.now (get_or c.args.words.now c.words.word-index 0) d c.words.self c.dial.new.self) w.in-Memory.is c.dial.ensures)
      (ap is_ok (sym w.all-is))
  | in_default w ↦ dials_next g.C.Ord.cmp (wire_in g) c.args.now c.args.words.now c.args.self.now c.words.self c.dial.new.self c.words.all c.match-dial.all c.words.word-index
      _ c.dial.result (at_index c.args.words.now c.words.word-index _ c.words-test.true refl) c.words.invariant c.dial.ensures
      (ap (λ b. not b && is_ok c.words.all) (other_than c.dial.result w.in_default.not-Memory) ∙ ap is_ok (sym w.all-is))
]

pub words-init : goal.words-init
words-init g c = dials_first g.C.Ord.cmp (wire_in g) c.args.now c.args.words.now c.args.self.now c.requires
