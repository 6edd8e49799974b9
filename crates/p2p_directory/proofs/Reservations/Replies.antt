-- One more reply.
use Rattle.std.proofs.Common.{◌≡◌, true, Option, List, [], ◌∷◌, ◌++◌, refl, sym, ◌∙◌, ap, subst}
use Rattle.std.proofs.lemmas.List.{map-append}
use Rattle.std.specs.Option.{option_map_or}
use Rattle.std.specs.Prelude.{Some, None}
use Rattle.std.specs.declared.cmp.Ordering.{Ordering}
use Rattle.p2p_tracker.specs.declared.directory.Metadata.{Metadata}
use Rattle.p2p_directory.specs.declared.run.commands.Command.{Command}
use Rattle.p2p_tracker.specs.Calls.{Settings, Call}
use Rattle.p2p_directory.specs.declared.run.commands.Reply.{Reply}
use Rattle.p2p_directory.specs.Private.Serving.{ServerView, has_slot_for, reserved_peer, StandsAt, IsCallServedAt}
use Rattle.p2p_directory.specs.Private.Slots.{has_slot}
use Rattle.p2p_directory.specs.Run.{call_of, calls_of, next, IsAnswer, accepted, AreAnswers}

-- there are slots for more peers
pub room_grows : {C S : Type 0} (cmp : C → C → Ordering) (slots slots2 : List (C × Option (Metadata C S)))
    (x : Command C S) → ((q : C) → has_slot cmp slots q ≡ true → has_slot cmp slots2 q ≡ true)
    → has_slot_for cmp slots x ≡ true → has_slot_for cmp slots2 x ≡ true
room_grows {C} cmp slots slots2 x more h = go (reserved_peer x) h
  where
    go : (o : Option C) → option_map_or (has_slot cmp slots) o true ≡ true →
        option_map_or (has_slot cmp slots2) o true ≡ true
    go None h = refl
    go (Some q) h = more q h

-- the slots are for the same peers
pub room_stays : {C S : Type 0} (cmp : C → C → Ordering) (slots slots2 : List (C × Option (Metadata C S)))
    (x : Command C S) → ((q : C) → has_slot cmp slots2 q ≡ has_slot cmp slots q)
    → has_slot_for cmp slots x ≡ true → has_slot_for cmp slots2 x ≡ true
room_stays cmp slots slots2 x same h = room_grows cmp slots slots2 x (λ q is. same q ∙ is) h

module _ {C S : Type 0} (s : Settings C S) where
  pub answers_push : (before cs : List (Call C S)) (rs : List (Reply C S)) (c : Call C S) (r : Reply C S) →
      AreAnswers s before cs rs → IsAnswer s (accepted s before cs rs) c r → AreAnswers s before (cs ++ c ∷ []) (rs ++ r ∷ [])
  answers_push before [] [] c r h last = (last, tt)
  answers_push before [] (q ∷ rs) c r h last = absurd h
  answers_push before (b ∷ cs) [] c r h last = absurd h
  answers_push before (b ∷ cs) (q ∷ rs) c r h last = (h.0, answers_push (next s before b q) cs rs c r h.1 last)

  pub accepted_push : (before cs : List (Call C S)) (rs : List (Reply C S)) (c : Call C S) (r : Reply C S) →
      AreAnswers s before cs rs → accepted s before (cs ++ c ∷ []) (rs ++ r ∷ []) ≡ next s (accepted s before cs rs) c r
  accepted_push before [] [] c r h = refl
  accepted_push before [] (q ∷ rs) c r h = absurd h
  accepted_push before (b ∷ cs) [] c r h = absurd h
  accepted_push before (b ∷ cs) (q ∷ rs) c r h = accepted_push (next s before b q) cs rs c r h.1

  -- one more command
  pub one_more : (xs : List (Command C S)) (rs : List (Reply C S)) (x : Command C S) (r : Reply C S) (v : ServerView C S) →
      AreAnswers s [] (calls_of xs) rs → IsCallServedAt s (accepted s [] (calls_of xs) rs) (call_of x) r v →
      AreAnswers s [] (calls_of (xs ++ x ∷ [])) (rs ++ r ∷ []) × StandsAt s (accepted s [] (calls_of (xs ++ x ∷ [])) (rs ++ r ∷ [])) v
  one_more xs rs x r v answers done =
      let grown : calls_of (xs ++ x ∷ []) ≡ calls_of xs ++ call_of x ∷ [] = map-append call_of xs (x ∷ []) in
      let led : accepted s [] (calls_of (xs ++ x ∷ [])) (rs ++ r ∷ []) ≡ next s (accepted s [] (calls_of xs) rs) (call_of x) r =
      ap (λ cs. accepted s [] cs (rs ++ r ∷ [])) grown ∙ accepted_push [] (calls_of xs) rs (call_of x) r answers in (
        subst (λ cs. AreAnswers s [] cs (rs ++ r ∷ [])) (sym grown) (answers_push [] (calls_of xs) rs (call_of x) r answers done.answer),
        subst (λ cs. StandsAt s cs v) (sym led) done.left,
      )
