-- Two nodes as a network: there are both, so none of the replies is that there is no node.
use Rattle.std.proofs.Common.{◌≡◌, ◌<◌, ℕ, zero, suc, true, List, [], ◌∷◌, length, refl, ap, subst, arith}
use Rattle.std.specs.Prelude.{slice_index_or}
use Rattle.std.specs.List.{AllPass}
use Rattle.std.specs.declared.cmp.Ordering.{Ordering}
use Rattle.p2p_directory.specs.declared.node.setup.Setup.{Setup}
use Rattle.p2p_directory.specs.declared.node.network.commands.NetworkCommand.{NetworkCommand}
use Rattle.p2p_directory.specs.declared.node.network.commands.NetworkReply.{NetworkReply}
use Rattle.p2p_directory.specs.declared.node.network.commands.NetworkReply.TheVariants as reply
use Rattle.p2p_directory.specs.declared.node.pair.Side.TheVariants.{Left, Right}
use Rattle.p2p_directory.specs.declared.node.pair.PairCommand.{PairCommand}
use Rattle.p2p_directory.specs.declared.node.pair.PairCommand.TheVariants as command
use Rattle.p2p_directory.specs.Received.{Wire}
use Rattle.p2p_directory.specs.Nodes.{Made, made_of}
use Rattle.p2p_directory.specs.Network.{Done, are_there, IsNetworkAnswer, AreNetworkAnswers, node_made, OfNetwork}
use Rattle.p2p_directory.specs.Pairs.{two, command_in, commands_in}
use Rattle.p2p_directory.specs.Private.Networks.{is_of_node}

-- P holds of each of two
pub of_both : {A : Type 0} (P : A → Type 0) (a b : A) → P a → P b → (k : ℕ) (d : A) →
    k < length (a ∷ b ∷ []) → P (slice_index_or (a ∷ b ∷ []) k d)
of_both P a b of_a of_b zero d lt = of_a
of_both P a b of_a of_b (suc zero) d lt = of_b
of_both P a b of_a of_b (suc (suc k)) d lt = absurd (omega (arith, lt))

-- what both are made from
pub made_is : {C S : Type 0} (cmp : C → C → Ordering) (left right : Setup C S) →
    node_made cmp right (left ∷ right ∷ []) ≡ two (made_of cmp left) (made_of cmp right)
made_is cmp left right = λ j i. each i j
  where
    each : (i : ℕ) → node_made cmp right (left ∷ right ∷ []) i
        ≡ two (made_of cmp left) (made_of cmp right) i
    each zero = refl
    each (suc zero) = refl
    each (suc (suc i)) = refl

-- what holds of a network of these two setups, its commands and its replies
pub as_two : {C S : Type 0} (cmp : C → C → Ordering) (left right : Setup C S)
    (setups : List (Setup C S)) (cs cs2 : List (NetworkCommand C S))
    (rs rs2 : List (NetworkReply C S))
    (P : ℕ → (ℕ → Made C S) → List (NetworkCommand C S) → List (NetworkReply C S) → Type 0) →
    setups ≡ left ∷ right ∷ [] → cs ≡ cs2 → rs ≡ rs2 →
    OfNetwork cmp setups (λ size node. P size node cs rs) →
    P 2 (two (made_of cmp left) (made_of cmp right)) cs2 rs2
as_two {C} {S} cmp left right setups cs cs2 rs rs2 P both given told h =
    subst (λ (t : (ℕ → Made C S) × (List (NetworkCommand C S) × List (NetworkReply C S))).
    P 2 t.0 t.1.0 t.1.1) (λ i. (made_is cmp left right i, (given i, told i)))
    (subst (λ xs. OfNetwork cmp xs (λ size node. P size node cs rs)) both h right)

-- there are as many replies as commands
pub answers_count : {C S : Type 0} (wire : Wire C S) (size : ℕ) (node : ℕ → Made C S)
    (done : Done C S) (cs : List (NetworkCommand C S)) (rs : List (NetworkReply C S)) →
    AreNetworkAnswers wire size node done cs rs → length rs ≡ length cs
answers_count wire size node done [] [] h = refl
answers_count wire size node done (c ∷ cs) (r ∷ rs) h =
    ap suc (answers_count wire size node ((c, r) ∷ done) cs rs h.1)
answers_count wire size node done _ _ h = absurd h

module _ {C S : Type 0} (wire : Wire C S) (left right : Made C S) where
  served : (c : PairCommand C S) → are_there 2 (command_in c) ≡ true
  served (command.Call Left x) = refl
  served (command.Call Right x) = refl
  served (command.Ask Left place) = refl
  served (command.Ask Right place) = refl
  served (command.Frame Left frame now) = refl
  served (command.Frame Right frame now) = refl
  served (command.Exchange Left place now now2) = refl
  served (command.Exchange Right place now now2) = refl

  of_node : (done : Done C S) (c : PairCommand C S) (r : NetworkReply C S) →
      IsNetworkAnswer wire 2 (two left right) done (command_in c) r → is_of_node r ≡ true
  of_node done c reply.NoNode h = absurd (let e = served c in cc)
  of_node done c _ h = refl

  pub are_of_nodes : (done : Done C S) (cs : List (PairCommand C S)) (rs : List (NetworkReply C S)) →
      AreNetworkAnswers wire 2 (two left right) done (commands_in cs) rs → AllPass is_of_node rs
  are_of_nodes done cs [] h k d lt = absurd (omega (arith, lt))
  are_of_nodes done [] (r ∷ rs) h k d lt = absurd h
  are_of_nodes done (c ∷ cs) (r ∷ rs) h zero d lt = of_node done c r h.0
  are_of_nodes done (c ∷ cs) (r ∷ rs) h (suc k) d lt =
      are_of_nodes ((command_in c, r) ∷ done) cs rs h.1 k d (omega (arith, lt))
