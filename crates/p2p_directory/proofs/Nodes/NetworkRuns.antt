-- Runs of a network: its nodes at the start, after one more reply, and in the end.
use Rattle.std.proofs.Common.{◌≡◌, ◌<◌, ℕ, zero, suc, List, [], ◌∷◌, ◌++◌, length, refl, sym, subst, arith}
use Rattle.std.specs.Prelude.{slice_index_or}
use Rattle.std.specs.declared.cmp.Ordering.{Ordering}
use Rattle.p2p_directory.specs.declared.node.setup.Setup.{Setup}
use Rattle.p2p_directory.specs.declared.node.network.commands.NetworkCommand.{NetworkCommand}
use Rattle.p2p_directory.specs.declared.node.network.commands.NetworkReply.{NetworkReply}
use Rattle.p2p_tracker.specs.Seen.{DirectoryView}
use Rattle.p2p_directory.specs.Held.{ReleasesAll}
use Rattle.p2p_directory.specs.Received.{Wire}
use Rattle.p2p_directory.specs.Nodes.{Made, NodeView, NodeStandsAt, made_of}
use Rattle.p2p_directory.specs.Network.{Done, IsNetworkAnswer, AreNetworkAnswers, done_after}
use Rattle.p2p_directory.specs.Network.{StandAfter, node_made, AreReleased}
use Rattle.p2p_directory.specs.Laws.Network.{OfEachReply}
use Rattle.p2p_directory.specs.Private.Networks.{IsAnsweredAt}

-- TWO LISTS, whose elements belong together

-- R holds of the two at each place
abbrev pub OfBoth : {A B : Type 0} → (A → B → Type 0) → List A → List B → Type 0
OfBoth {A} {B} R xs ys = (k : ℕ) (a : A) (b : B) → k < length xs →
    R (slice_index_or xs k a) (slice_index_or ys k b)

pub both_push : {A B : Type 0} (R : A → B → Type 0) (xs : List A) (ys : List B) (x : A) (y : B) →
    length ys ≡ length xs → OfBoth R xs ys → R x y → OfBoth R (xs ++ x ∷ []) (ys ++ y ∷ [])
both_push R [] [] x y same all one zero a b lt = one
both_push R [] [] x y same all one (suc k) a b lt = absurd (omega (arith, lt))
both_push R (z ∷ xs) (w ∷ ys) x y same all one zero a b lt = all zero a b (omega arith)
both_push R (z ∷ xs) (w ∷ ys) x y same all one (suc k) a b lt =
    both_push R xs ys x y (omega (arith, same)) (λ j c d inside. all (suc j) c d (omega (arith, inside)))
    one k a b (omega (arith, lt))
both_push R _ _ x y same all one k a b lt = absurd (omega (arith, same))

-- one more element
pub all_push : {A : Type 0} (P : A → Type 0) (xs : List A) (x : A) →
    ((k : ℕ) (a : A) → k < length xs → P (slice_index_or xs k a)) → P x →
    (k : ℕ) (a : A) → k < length (xs ++ x ∷ []) → P (slice_index_or (xs ++ x ∷ []) k a)
all_push P [] x all one zero a lt = one
all_push P [] x all one (suc k) a lt = absurd (omega (arith, lt))
all_push P (y ∷ xs) x all one zero a lt = all zero a (omega arith)
all_push P (y ∷ xs) x all one (suc k) a lt =
    all_push P xs x (λ j b inside. all (suc j) b (omega (arith, inside))) one k a (omega (arith, lt))

module _ {C S : Type 0} (cmp : C → C → Ordering) where
  -- THE START

  -- an endpoint is a new node of a setup
  abbrev pub IsNew : Setup C S → NodeView C S → Type 0
  IsNew given e = NodeStandsAt (made_of cmp given) [] e

  pub stand_at_start : (wire : Wire C S) (setups : List (Setup C S)) (es : List (NodeView C S))
      (other : Setup C S) → length es ≡ length setups → OfBoth IsNew setups es →
      StandAfter wire (length setups) (node_made cmp other setups) [] es
  stand_at_start wire setups es other same all = record {
    count = same;
    each = λ i v lt. each i v lt es same all;
  }
    where
      each : (i : ℕ) (v : NodeView C S) → i < length setups → (es : List (NodeView C S)) →
          length es ≡ length setups → OfBoth IsNew setups es →
          NodeStandsAt (made_of cmp (slice_index_or setups i other)) []
          (slice_index_or es i v)
      each i v lt [] same all = absurd (omega (arith, lt, same))
      each i v lt (e ∷ es) same all = all i other v lt

  -- THE END

  -- all that is held was released
  abbrev pub IsReleased : NodeView C S → DirectoryView C S → Type 0
  IsReleased e d = ReleasesAll cmp e.held e.directory d

  pub are_released : (es : List (NodeView C S)) (ds : List (DirectoryView C S)) →
      length ds ≡ length es → OfBoth IsReleased es ds → AreReleased cmp es ds
  are_released es ds same all = record { count = same; each = λ i v d lt. all i v d lt }

-- ONE MORE REPLY

module _ {C S : Type 0} (wire : Wire C S) (size : ℕ) (node : ℕ → Made C S) where
  answers_push : (done : Done C S) (cs : List (NetworkCommand C S)) (rs : List (NetworkReply C S))
      (c : NetworkCommand C S) (r : NetworkReply C S) →
      AreNetworkAnswers wire size node done cs rs →
      IsNetworkAnswer wire size node (done_after wire size node done cs rs) c r →
      AreNetworkAnswers wire size node done (cs ++ c ∷ []) (rs ++ r ∷ [])
  answers_push done [] [] c r h last = (last, tt)
  answers_push done (b ∷ cs) (q ∷ rs) c r h last =
      (h.0, answers_push ((b, q) ∷ done) cs rs c r h.1 last)
  answers_push done _ _ c r h last = absurd h

  done_push : (done : Done C S) (cs : List (NetworkCommand C S)) (rs : List (NetworkReply C S))
      (c : NetworkCommand C S) (r : NetworkReply C S) →
      AreNetworkAnswers wire size node done cs rs →
      done_after wire size node done (cs ++ c ∷ []) (rs ++ r ∷ [])
      ≡ (c, r) ∷ done_after wire size node done cs rs
  done_push done [] [] c r h = refl
  done_push done (b ∷ cs) (q ∷ rs) c r h = done_push ((b, q) ∷ done) cs rs c r h.1
  done_push done _ _ c r h = absurd h

  -- one more command
  pub one_more : (cs : List (NetworkCommand C S)) (rs : List (NetworkReply C S))
      (c : NetworkCommand C S) (r : NetworkReply C S) (vs : List (NodeView C S)) →
      AreNetworkAnswers wire size node [] cs rs →
      IsAnsweredAt wire size node (done_after wire size node [] cs rs) c r vs →
      AreNetworkAnswers wire size node [] (cs ++ c ∷ []) (rs ++ r ∷ []) × StandAfter wire size node
      (done_after wire size node [] (cs ++ c ∷ []) (rs ++ r ∷ [])) vs
  one_more cs rs c r vs answers served = (
    answers_push [] cs rs c r answers served.answer,
    subst (λ done. StandAfter wire size node done vs) (sym (done_push [] cs rs c r answers))
        served.stand,
  )

  -- a law of one reply holds of one more reply, too
  pub reply_push : (P : Done C S → NetworkCommand C S → NetworkReply C S → Type 0) (done : Done C S)
      (cs : List (NetworkCommand C S)) (rs : List (NetworkReply C S)) (c : NetworkCommand C S) (r : NetworkReply C S) →
      AreNetworkAnswers wire size node done cs rs → OfEachReply wire size node P done cs rs →
      P (done_after wire size node done cs rs) c r →
      OfEachReply wire size node P done (cs ++ c ∷ []) (rs ++ r ∷ [])
  reply_push P done [] [] c r h each last = (last, tt)
  reply_push P done (b ∷ cs) (q ∷ rs) c r h each last =
      (each.0, reply_push P ((b, q) ∷ done) cs rs c r h.1 each.1 last)
  reply_push P done _ _ c r h each last = absurd h
