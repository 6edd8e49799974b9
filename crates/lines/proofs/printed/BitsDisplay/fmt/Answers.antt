use Rattle.std.proofs.Common.{rules, Some, ◌≡◌, ℕ, ◌+◌, Bool, true, false, List, [], ◌∷◌, ◌++◌}
use Rattle.std.proofs.Common.{take, flat_map, slice_get, sym, ap, ◌∙◌}
use Rattle.std.proofs.lemmas.List.{take_more, flat_map_more}
use Rattle.std.proofs.lemmas.Option.{get_or_from_slice_get, slice_get_within}
use Rattle.std.proofs.Output.{has_written_append, has_written_of_eq}
use Rattle.lines.specs.Printed.{bit_text}
use Rattle.lines.proofs.printed.BitsDisplay.fmt.Goals as goal
use Rattle.lines.proofs.printed.BitsDisplay.fmt.Goals.{then-get, else-get}

-- what one more value adds
one_more : (bits : List Bool) (k : ℕ) (b : Bool) → slice_get bits k ≡ Some b →
    flat_map bit_text (take k bits) ++ bit_text b ≡ flat_map bit_text (take (k + 1) bits)
one_more bits k b there = flat_map_more bit_text [] (take k bits) b
    ∙ ap (flat_map bit_text) (sym (take_more bits k b (slice_get_within bits k b there)
    ∙ ap (λ x. take k bits ++ x ∷ []) (get_or_from_slice_get bits k b b there)))

pub loop-place-preserved : goal.loop-place-preserved
loop-place-preserved g c p = elim c.if-get.branch [
  | then-get w ↦ has_written_of_eq _ _ _ _ _
      (one_more c.args.self.now.0.now c.loop-place.place true (search rules))
      (has_written_append _ _ _ _ _ _ (c.loop-place.invariant p) (search rules))
  | else-get w ↦ has_written_of_eq _ _ _ _ _
      (one_more c.args.self.now.0.now c.loop-place.place false (search rules))
      (has_written_append _ _ _ _ _ _ (c.loop-place.invariant p) (search rules))
]
