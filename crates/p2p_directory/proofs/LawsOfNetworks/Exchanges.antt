-- Each exchange of any two of the nodes.
use Rattle.std.proofs.Common.{◌≡◌, ℕ, Bool, true, false, ◌&&◌, List, ◌∷◌, Some, inl, inr, refl}
use Rattle.std.proofs.Common.{sym, ◌∙◌, ap, subst, is_some}
use Rattle.std.specs.Prelude.{◌⊎◌, if◌then◌else◌, not, ◌==◌}
use Rattle.std.specs.Cmp.{IsTotalOrder}
use Rattle.std.specs.Duration.{as_nanos}
use Rattle.std.specs.Ordering.{is_eq}
use Rattle.std.specs.declared.cmp.Ordering.{Ordering}
use Rattle.std.specs.declared.cmp.Ordering.TheVariants.{Equal}
use Rattle.std.specs.declared.time.Duration.{Duration}
use Rattle.std.proofs.lemmas.Bool.{and_parts, eqb-true, eq-eqb, not-true}
use Rattle.std.proofs.lemmas.Cmp.{tied_itself}
use Rattle.p2p_discovery.specs.declared.discovery.Info.{Info}
use Rattle.p2p_directory.specs.declared.node.exchanged.Exchanged.{Exchanged}
use Rattle.p2p_directory.specs.declared.node.exchanged.Exchanged.TheVariants as exchanged
use Rattle.p2p_directory.specs.declared.node.network.commands.NetworkCommand.{NetworkCommand}
use Rattle.p2p_directory.specs.declared.node.network.commands.NetworkCommand.TheVariants as command
use Rattle.p2p_directory.specs.declared.node.network.commands.NetworkReply.{NetworkReply}
use Rattle.p2p_directory.specs.declared.node.network.commands.NetworkReply.TheVariants as reply
use Rattle.p2p_tracker.specs.Calls.{Call, SetAt}
use Rattle.p2p_tracker.specs.Calls.Call.{Update}
use Rattle.p2p_tracker.specs.History
use Rattle.p2p_tracker.specs.World.{World}
use Rattle.p2p_directory.specs.Run.{world_after}
use Rattle.p2p_directory.specs.Received.{Wire}
use Rattle.p2p_directory.specs.Exchange
use Rattle.p2p_directory.specs.Exchange.{ExchangeOutcome, infos_applied}
use Rattle.p2p_directory.specs.Exchange.ExchangeOutcome.{Applied}
use Rattle.p2p_directory.specs.Nodes.{Made, standing_in, calls_with}
use Rattle.p2p_directory.specs.Network.{Done, is_node, calls_at, world_at_node, IsNetworkAnswer, AreNetworkAnswers}
use Rattle.p2p_directory.specs.Laws.Gossip.{wanted_infos}
use Rattle.p2p_directory.specs.Laws.Network.{AreMade, IsSigned, MayBring, infos_to_bring, Brings}
use Rattle.p2p_directory.specs.Laws.Network.{AreSame, BringsWanted, OfEachReply}
use Rattle.p2p_directory.proofs.Definitions.Keys.{exact_from}
use Rattle.p2p_directory.proofs.Definitions.Law
use Rattle.p2p_directory.proofs.LawsOfGossip.Infos
use Rattle.p2p_directory.proofs.LawsOfGossip.Exchanges as one_exchange
use Rattle.p2p_directory.proofs.LawsOfGossip.Brought
use Rattle.p2p_directory.proofs.LawsOfNetworks.Provenance

-- a number is itself, and no other
pub one_itself : {A : Type 0} (i : ℕ) (a b : A) → (if i == i then a else b) ≡ a
one_itself i a b = ap (λ c. if c then a else b) (eq-eqb i i refl)

module _ {C S : Type 0} (wire : Wire C S) (size : ℕ) (node : ℕ → Made C S) where
  abbrev world : Done C S → ℕ → World C S
  world done i = world_at_node wire size node done i

  -- an exchange that is served is of two nodes
  pub record AreTwo (asker replier : ℕ) : Type 0 where
    pub asks : is_node wire size node asker ≡ true
    pub replies : is_node wire size node replier ≡ true
    pub differ : (asker == replier) ≡ false

  pub are_two : (asker replier : ℕ) →
      (is_node wire size node asker && (is_node wire size node replier && not (asker == replier)))
      ≡ true → AreTwo asker replier
  are_two asker replier e =
      let first = and_parts (is_node wire size node asker)
      (is_node wire size node replier && not (asker == replier)) e in
      let second = and_parts (is_node wire size node replier) (not (asker == replier)) first.1 in
      record {
        asks = first.0;
        replies = second.0;
        differ = not-true (asker == replier) second.1;
      }

  -- WHAT AN EXCHANGE DOES TO ALL

  abbrev pub after : Done C S → (asker replier : ℕ) → ℕ → Duration → Duration → Exchanged C S →
      Done C S
  after done asker replier place asker_now replier_now r =
      (command.Exchange asker replier place asker_now replier_now, reply.Exchange r) ∷ done

  module _ (asker replier place : ℕ) (asker_now replier_now : Duration) where
    pub calls_after : (done : Done C S) (r : Exchanged C S) →
        calls_at wire size node (after done asker replier place asker_now replier_now r) asker
        ≡ calls_with (infos_applied r) (calls_at wire size node done asker)
    calls_after done r = one_itself asker
        (calls_with (infos_applied r) (calls_at wire size node done asker))
        (calls_at wire size node done asker)

    -- another node than the asker
    others_after : (done : Done C S) (r : Exchanged C S) (i : ℕ) → (asker == i) ≡ false →
        calls_at wire size node (after done asker replier place asker_now replier_now r) i
        ≡ calls_at wire size node done i
    others_after done r i e = ap (λ b. if b
        then calls_with (infos_applied r) (calls_at wire size node done i)
        else calls_at wire size node done i) e

  module _ (cmp : C → C → Ordering) (total : IsTotalOrder cmp)
      (exact_keys : (q p : C) → cmp q p ≡ Equal → q ≡ p)
      (made : AreMade wire size node cmp) where
    pub itself : (i : ℕ) → is_node wire size node i ≡ true → (p : C) →
        History.same (node i).directory p p ≡ true
    itself i there p =
        ap is_eq (tied_itself (subst IsTotalOrder (sym (made i there).order) total) p)

    pub exact : (i : ℕ) → is_node wire size node i ≡ true → History.IsExact (node i).directory
    exact i there = exact_from (node i).directory cmp (made i there).order exact_keys

    module _ (done : Done C S) (asker replier : ℕ) (two : AreTwo asker replier) (place : ℕ)
        (asker_now replier_now : Duration) (x : SetAt C)
        (may : MayBring wire size node done asker replier place asker_now replier_now x) where
      abbrev infos : List (Info C S)
      infos = infos_to_bring wire size node done asker replier (as_nanos replier_now) x

      abbrev cs : List (Call C S)
      cs = calls_at wire size node done asker

      abbrev ds : List (Call C S)
      ds = calls_at wire size node done replier

      pub signed : Infos.AreGiven (node replier).directory
          (one_exchange.IsSigned wire (node asker) (node replier)) ds
      signed = Brought.given_weaker (IsSigned wire size node asker replier)
          (one_exchange.IsSigned wire (node asker) (node replier)) (λ i h. h.at_asker)
          (node replier).directory ds
          (Provenance.given_at wire size node (IsSigned wire size node asker replier) replier done
          may.honest two.replies)

      -- what it comes to
      abbrev coming : World C S → List (Call C S) → ExchangeOutcome C S
      coming u es = Exchange.exchanged_at (standing_in (node asker) wire u)
          (standing_in (node replier) wire (world_after (node replier).directory es))
          place (as_nanos asker_now) (as_nanos replier_now)

      applied : coming (world done asker) ds ≡ Applied infos
      applied = Brought.applied wire (node asker) (node replier) (made asker two.asks).sets
          (itself asker two.asks) (exact asker two.asks) (exact replier two.replies)
          (made asker two.asks).me cs ds signed
          place (as_nanos asker_now) (as_nanos replier_now) x may.one.kept may.one.at_place
          may.one.retained may.one.one_list may.fits.bits may.fits.peers may.fits.count
          may.fits.moments

      abbrev BringsAt : World C S → Type 0
      BringsAt = Brought.Brings wire (node asker) (node replier) (made asker two.asks).sets
          (itself asker two.asks) (exact asker two.asks) (exact replier two.replies)
          (made asker two.asks).me cs ds signed
          place (as_nanos asker_now) (as_nanos replier_now) x may.one.kept

      -- ONCE, replied r

      module _ (r : Exchanged C S) (is_applied : infos_applied r ≡ Some infos) where
        abbrev once : Done C S
        once = after done asker replier place asker_now replier_now r

        brings : BringsAt (world once asker)
        brings = subst (λ es. BringsAt (world_after (node asker).directory es))
            (sym (calls_after asker replier place asker_now replier_now done r
            ∙ ap (λ o. calls_with o cs) is_applied))
            (Brought.brings wire (node asker) (node replier) (made asker two.asks).sets
            (itself asker two.asks) (exact asker two.asks) (exact replier two.replies)
            (made asker two.asks).me cs ds signed
            place (as_nanos asker_now) (as_nanos replier_now) x may.one.kept may.one.at_place
            may.one.retained may.one.one_list may.fits.bits may.fits.peers may.fits.count
            may.fits.moments)

        -- TWICE, replied q

        abbrev infos_again : List (Info C S)
        infos_again = wanted_infos (node asker) (world once asker) (node replier)
            (world done replier) (as_nanos replier_now) x.primary

        module _ (q : Exchanged C S)
            (is : IsNetworkAnswer wire size node once
            (command.Exchange asker replier place asker_now replier_now) (reply.Exchange q)) where
          abbrev twice : Done C S
          twice = after once asker replier place asker_now replier_now q

          again : (infos_applied q ≡ Some infos_again) ⊎ (q ≡ exchanged.Memory)
          again = Brought.applied_or_memory q _ _ infos_again is.1
              (ap (coming (world once asker))
              (others_after asker replier place asker_now replier_now done r replier two.differ)
              ∙ brings.again)

          asker_same : (infos_applied q ≡ Some infos_again) ⊎ (q ≡ exchanged.Memory) →
              world twice asker ≡ world once asker
          asker_same (inl e) =
              ap (world_after (node asker).directory)
              (calls_after asker replier place asker_now replier_now once q
              ∙ ap (λ o. calls_with o (calls_at wire size node once asker)) e)
              ∙ Law.recomputed_is_one_step (node asker).directory (made asker two.asks).sets
              (calls_at wire size node once asker) (Update infos_again)
              ∙ brings.unchanged
          asker_same (inr e) =
              ap (world_after (node asker).directory)
              (calls_after asker replier place asker_now replier_now once q
              ∙ ap (λ z. calls_with (infos_applied z) (calls_at wire size node once asker)) e)

          some_or_memory : (infos_applied q ≡ Some infos_again) ⊎ (q ≡ exchanged.Memory) →
              (is_some (infos_applied q) ≡ true) ⊎ (q ≡ exchanged.Memory)
          some_or_memory (inl e) = inl (ap is_some e)
          some_or_memory (inr e) = inr e

          same : AreSame wire size node once twice
          same i = go (asker == i) refl
            where
              go : (b : Bool) → (asker == i) ≡ b → world twice i ≡ world once i
              go true e = subst (λ j. world twice j ≡ world once j) (eqb-true asker i e)
                  (asker_same again)
              go false e = ap (world_after (node i).directory)
                  (others_after asker replier place asker_now replier_now once q i e)

          repeated : ((is_some (infos_applied q) ≡ true) ⊎ (q ≡ exchanged.Memory))
              × AreSame wire size node once twice
          repeated = (some_or_memory again, same)

      pub brings_wanted : (r : Exchanged C S) →
          IsNetworkAnswer wire size node done
          (command.Exchange asker replier place asker_now replier_now) (reply.Exchange r) →
          Brings wire size node done asker replier (as_nanos replier_now) x
          (command.Exchange asker replier place asker_now replier_now) r infos
      brings_wanted r is = record {
        shared = one_exchange.reply_is wire (node asker) (node replier) (world done asker)
            (world done replier) x may.one.kept (as_nanos replier_now) may.one.retained
            may.one.one_list;
        answer = Brought.applied_or_memory r _ _ infos is.1 applied;
        known = λ e. (brings r e).known;
        again = λ e q f. repeated r e q f;
      }

    -- AT EACH POINT OF A RUN

    pub wanted : (done : Done C S) → Provenance.AreAnswered wire size node done →
        (c : NetworkCommand C S) (r : NetworkReply C S) → IsNetworkAnswer wire size node done c r →
        BringsWanted wire size node done c r
    wanted done answered (command.Exchange asker replier place asker_now replier_now)
        (reply.Exchange r) is = λ x may.
        brings_wanted done asker replier (are_two asker replier is.0) place asker_now
        replier_now x may r is
    wanted done answered c r is = tt

    pub keep_exchanges : (done : Done C S) → Provenance.AreAnswered wire size node done →
        (xs : List (NetworkCommand C S)) (rs : List (NetworkReply C S)) →
        AreNetworkAnswers wire size node done xs rs →
        OfEachReply wire size node (BringsWanted wire size node) done xs rs
    keep_exchanges done answered xs rs h =
        Provenance.of_each_reply wire size node (BringsWanted wire size node) wanted done answered
        xs rs h
