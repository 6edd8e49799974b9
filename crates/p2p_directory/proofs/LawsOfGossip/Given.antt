-- What either of two nodes holds was given to one of them.
use Rattle.std.proofs.Common.{◌≡◌, ℕ, Bool, true, false, List, ◌∷◌, length, Option, Some, None, refl, subst}
use Rattle.std.specs.Prelude.{if◌then◌else◌, nat_lt, IfSome}
use Rattle.std.specs.List.{AllByRecursion}
use Rattle.p2p_discovery.specs.declared.codec.error.CodecError.TheVariants.{InvalidLength}
use Rattle.p2p_discovery.specs.declared.discovery.BitVec.{BitVec}
use Rattle.p2p_discovery.specs.declared.discovery.Error.{Error}
use Rattle.p2p_discovery.specs.declared.discovery.Info.{Info}
use Rattle.p2p_discovery.specs.Judgement.{list_refusal}
use Rattle.p2p_directory.specs.declared.node.exchanged.Exchanged.{Exchanged}
use Rattle.p2p_directory.specs.declared.node.exchanged.Exchanged.TheVariants as exchanged
use Rattle.p2p_tracker.specs.Calls.{Call}
use Rattle.p2p_directory.specs.Received.{Standing}
use Rattle.p2p_directory.specs.Exchange
use Rattle.p2p_directory.specs.Exchange.{ExchangeOutcome}
use Rattle.p2p_directory.specs.Exchange.ExchangeOutcome.{AskRefused, ReplyRefused, Applied}
use Rattle.p2p_directory.specs.Nodes.{calls_with}
use Rattle.p2p_directory.specs.Laws.Gossip.{GivesOnly}

module _ {C S : Type 0} (P : Info C S → Type 0) where
  -- P holds of each info that is applied
  abbrev pub Brings : ExchangeOutcome C S → Type 0
  Brings (Applied infos) = AllByRecursion P infos
  Brings _ = Unit {0}

  -- what an exchange applies is what the replier told
  pub exchange_gives : (a b : Standing C S) (place asker_now replier_now : ℕ) →
      ((index : ℕ) (bits : List Bool) (infos : List (Info C S)) →
      b.infos index bits replier_now ≡ Some infos → AllByRecursion P infos) →
      Brings (Exchange.exchanged_at a b place asker_now replier_now)
  exchange_gives a b place asker_now replier_now told = asked (a.bits place)
    where
      judged : (infos : List (Info C S)) (o : Option Error) → AllByRecursion P infos →
          Brings (Exchange.judged_at infos o)
      judged infos None h = h
      judged infos (Some e) h = tt

      few : (infos : List (Info C S)) (c : Bool) → AllByRecursion P infos →
          Brings (if c then ReplyRefused (InvalidLength (length infos))
          else Exchange.judged_at infos (list_refusal a.judge asker_now infos))
      few infos true h = tt
      few infos false h = judged infos (list_refusal a.judge asker_now infos) h

      replied : (o : Option (List (Info C S))) →
          ((infos : List (Info C S)) → o ≡ Some infos → AllByRecursion P infos) →
          Brings (Exchange.replied_at a asker_now o)
      replied None h = tt
      replied (Some infos) h = few infos (nat_lt a.limits.max_peers (length infos)) (h infos refl)

      read : (v : BitVec) (c : Bool) →
          Brings (if c then AskRefused (InvalidLength (length v.bits))
          else Exchange.replied_at a asker_now (b.infos v.index v.bits replier_now))
      read v true = tt
      read v false = replied (b.infos v.index v.bits replier_now) (told v.index v.bits)

      asked : (o : Option BitVec) → Brings (Exchange.asked_at a b asker_now replier_now o)
      asked None = tt
      asked (Some v) = read v (nat_lt b.limits.max_bit_vec (length v.bits))

  -- .. with an answer
  pub brings_applied : (r : Exchanged C S) (may : Bool) (o : ExchangeOutcome C S) →
      Exchange.IsExchangeAnswer may o r → Brings o →
      IfSome (Exchange.infos_applied r) (AllByRecursion P)
  brings_applied (exchanged.Applied infos) may o is h = subst Brings is h
  brings_applied r may o is h = tt

  -- one more update, or none
  pub gives_with : (applied : Option (List (Info C S))) (calls : List (Call C S)) →
      IfSome applied (AllByRecursion P) → AllByRecursion (GivesOnly P) calls →
      AllByRecursion (GivesOnly P) (calls_with applied calls)
  gives_with None calls h before = before
  gives_with (Some infos) calls h before = (h, before)

  -- one more call, or none
  pub gives_if : (b : Bool) (c : Call C S) (calls : List (Call C S)) → (b ≡ true → GivesOnly P c) →
      AllByRecursion (GivesOnly P) calls → AllByRecursion (GivesOnly P) (if b then c ∷ calls else calls)
  gives_if true c calls h before = (h refl, before)
  gives_if false c calls h before = before
