-- What one exchange brings the asker, by what the directories of both were given.
use Rattle.std.proofs.Common.{◌≡◌, ℕ, ◌+◌, ◌≤◌, Bool, true, List, ◌∷◌, length, Some, inl, inr, refl}
use Rattle.std.proofs.Common.{sym, ◌∙◌, ap, subst}
use Rattle.std.specs.Prelude.{◌⊎◌}
use Rattle.std.specs.List.{AllByRecursion}
use Rattle.p2p_discovery.specs.declared.discovery.Info.{Info}
use Rattle.p2p_directory.specs.declared.node.exchanged.Exchanged.{Exchanged}
use Rattle.p2p_directory.specs.declared.node.exchanged.Exchanged.TheVariants as exchanged
use Rattle.p2p_tracker.specs.Calls.{Settings, Call, SetAt}
use Rattle.p2p_tracker.specs.Calls.Call.{Update}
use Rattle.p2p_tracker.specs.History
use Rattle.p2p_tracker.specs.World.{World}
use Rattle.p2p_tracker.specs.World
use Rattle.p2p_tracker.specs.Answers.{set_at_place, set_with_index}
use Rattle.p2p_directory.specs.Run.{world_after}
use Rattle.p2p_directory.specs.Received.{Wire}
use Rattle.p2p_directory.specs.Exchange
use Rattle.p2p_directory.specs.Exchange.{ExchangeOutcome, infos_applied}
use Rattle.p2p_directory.specs.Exchange.ExchangeOutcome.{Applied}
use Rattle.p2p_directory.specs.Nodes.{Made, standing_in}
use Rattle.p2p_directory.specs.Laws.Gossip.{GivesOnly, IsUpToDate, wanted_infos}
use Rattle.p2p_directory.proofs.Definitions.Law
use Rattle.p2p_directory.proofs.LawsOfGossip.Lists.{all_weaker, from_members}
use Rattle.p2p_directory.proofs.LawsOfGossip.Infos
use Rattle.p2p_directory.proofs.LawsOfGossip.Exchanges
use Rattle.p2p_directory.proofs.LawsOfGossip.Repeated

-- WHAT WAS GIVEN, under a weaker property

module _ {C S : Type 0} (P Q : Info C S → Type 0) (weaker : (i : Info C S) → P i → Q i) where
  pub gives_weaker : (c : Call C S) → GivesOnly P c → GivesOnly Q c
  gives_weaker (Update infos) h = all_weaker P Q weaker infos h
  gives_weaker c h = tt

  pub given_weaker : (s : Settings C S) (cs : List (Call C S)) → Infos.AreGiven s P cs →
      Infos.AreGiven s Q cs
  given_weaker s cs h = record {
    own = weaker s.own h.own;
    calls = all_weaker (GivesOnly P) (GivesOnly Q) gives_weaker cs h.calls;
  }

-- ANSWERS

module _ {C S : Type 0} where
  content : (xs ys : List (Info C S)) → Applied xs ≡ Applied ys → xs ≡ ys
  content xs ys e =
      let infos : ExchangeOutcome C S → List (Info C S) = λ o. elim o [ Applied zs ↦ zs | _ ↦ xs ] in
      ap infos e

  -- the answer where an exchange comes to applied infos
  pub applied_or_memory : (r : Exchanged C S) (may : Bool) (o : ExchangeOutcome C S)
      (infos : List (Info C S)) → Exchange.IsExchangeAnswer may o r → o ≡ Applied infos →
      (infos_applied r ≡ Some infos) ⊎ (r ≡ exchanged.Memory)
  applied_or_memory (exchanged.Applied xs) may o infos is e =
      inl (ap Some (content xs.items infos (sym is ∙ e)))
  applied_or_memory exchanged.Memory may o infos is e = inr refl
  applied_or_memory r may o infos is e = absurd (let f = sym is ∙ e in cc)

-- ONE EXCHANGE

module _ {C S : Type 0} (wire : Wire C S) (asker replier : Made C S)
    (some : 1 ≤ asker.directory.max_sets)
    (itself : (p : C) → History.same asker.directory p p ≡ true)
    (exact_asker : History.IsExact asker.directory) (exact : History.IsExact replier.directory)
    (me : asker.verifier.me ≡ asker.directory.own.public_key)
    (cs ds : List (Call C S))
    (signed : Infos.AreGiven replier.directory (Exchanges.IsSigned wire asker replier) ds)
    (place asker_now replier_now : ℕ) (x y : SetAt C) where
  abbrev w : World C S
  w = world_after asker.directory cs

  abbrev v : World C S
  v = world_after replier.directory ds

  abbrev coming : World C S → ExchangeOutcome C S
  coming u = Exchange.exchanged_at (standing_in asker wire u) (standing_in replier wire v) place
      asker_now replier_now

  abbrev infos_of : World C S → List (Info C S)
  infos_of u = wanted_infos asker u replier v replier_now x.primary

  -- .. where the asker's world after it is u
  pub record Brings (u : World C S) : Type 0 where
    pub known : AllByRecursion (IsUpToDate u) (infos_of w)
    -- it is applied again, which changes nothing
    pub again : coming u ≡ Applied (infos_of u)
    pub unchanged : World.step asker.directory u (Update (infos_of u)) ≡ u

  module _ (at : set_at_place asker.directory w place ≡ Some x)
      (retained : set_with_index replier.directory v x.index ≡ Some y) (one : y.primary ≡ x.primary)
      (bits : length x.primary ≤ replier.limits.max_bit_vec)
      (peers : length (infos_of w) ≤ asker.limits.max_peers)
      (count : length (infos_of w) ≤ asker.verifier.greatest_count)
      (moments : replier_now ≤ asker_now + asker.verifier.synchrony_bound) where
    pub applied : coming w ≡ Applied (infos_of w)
    applied = Exchanges.exchange_applied wire asker replier asker_now replier_now ds exact signed me
        moments w place x y at retained one bits peers count

    brings_step : Brings (World.step asker.directory w (Update (infos_of w)))
    brings_step = record {
      known = from_members (IsUpToDate (World.step asker.directory w (Update (infos_of w))))
          (infos_of w)
          (Exchanges.brought_are_known wire asker replier asker_now replier_now ds exact signed me
          moments itself w place x at);
      again = Repeated.repeated_is_applied wire asker replier asker_now replier_now cs ds some
          itself exact_asker exact signed me moments place x y at retained one bits peers count;
      unchanged = Repeated.repeated_changes_nothing wire asker replier asker_now replier_now cs ds
          some itself exact_asker exact signed me moments place x at;
    }

    pub brings : Brings (world_after asker.directory (Update (infos_of w) ∷ cs))
    brings = subst Brings
        (sym (Law.recomputed_is_one_step asker.directory some cs (Update (infos_of w)))) brings_step
