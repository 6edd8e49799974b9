-- What a track answers fits a room that has the keys of all peers with a record.
use Rattle.std.proofs.Common.{◌≡◌, ℕ, ◌*◌, ◌≤◌, ◌<◌, ◌^◌, min, List, length, Option, Some, None, sym, subst, inl, inr, arith, lit<}
use Rattle.std.proofs.Math.Nat.{mul-le-mul_right}
use Rattle.std.specs.Prelude.{IfSome}
use Rattle.p2p_tracker.specs.Seen.{DirectoryView}
use Rattle.p2p_tracker.specs.Directory.{other_keys}
use Rattle.p2p_directory.specs.Nodes.{TearsDownFew}
use Rattle.p2p_directory.specs.declared.run.commands.Reply.{Reply}
use Rattle.p2p_directory.specs.declared.run.commands.Reply.TheVariants as reply
use Rattle.p2p_session.specs.declared.refusal.Refusal.{Refusal}
use Rattle.p2p_session.specs.declared.refusal.Refusal.TheVariants as refusal
use Rattle.p2p_session.specs.Answers.{Tells, IsAnswered, optional, keys_bytes}
use Rattle.p2p_session.specs.Sessions.{TellsReply, Fits}
use Rattle.p2p_session.specs.Refusals.{number_of}
use Rattle.p2p_discovery.specs.Fixed.{IsFixed}
use Rattle.p2p_session.proofs.Puts.{length_keys}
use Rattle.p2p_session.specs.Schemes.{Scheme}

-- no refusal is a length
pub high : (why : Refusal) → 2 ^ 63 < number_of why
high refusal.Memory = lit< tt
high refusal.NoNode = lit< tt
high refusal.Absent = lit< tt
high refusal.NoRoom = lit< tt
high refusal.NotReserved = lit< tt
high refusal.NotHeld = lit< tt
high refusal.BadKey = lit< tt
high refusal.BadKeys = lit< tt
high refusal.BadInfo = lit< tt
high refusal.BadBits = lit< tt
high refusal.BadMoment = lit< tt
high refusal.BadSetting = lit< tt
high refusal.BadVerdicts = lit< tt
high refusal.BadCall = lit< tt

pub refused_whole : (out : List ℕ) (why : Refusal) (n : ℕ) → n ≡ number_of why → Fits out n
refused_whole out why n e = inr (subst (λ k. 2 ^ 63 < k) (sym e) (high why))

module _ {C S : Type 0} (k : Scheme C S)
    (key_laws : IsFixed k.key.SIZE k.key.spelled k.key.value k.key.IsValue) where
  -- as many keys as there are records, or fewer, fit
  keys_whole : (out out2 : List ℕ) (ps others : List C) (n : ℕ) → length ps ≤ length others →
      min (length others * k.key.SIZE) (2 ^ 63) ≤ length out → IsAnswered (keys_bytes k ps) out out2 n → Fits out n
  keys_whole out out2 ps others n few room told =
      let size = length_keys k key_laws ps in
      inl (omega (arith, size, told.count, mul-le-mul_right k.key.SIZE few, room))

  told_whole : (out out2 : List ℕ) (others : List C) (n : ℕ) → min (length others * k.key.SIZE) (2 ^ 63) ≤ length out →
      (torn : Option (List C)) → IfSome torn (λ ps. length ps ≤ length others) → Tells (optional (keys_bytes k) torn) out out2 n → Fits out n
  told_whole out out2 others n room None few told = refused_whole out refusal.Absent n told.0
  told_whole out out2 others n room (Some ps) few told = keys_whole out out2 ps others n few room told

  pub track_whole : (d : DirectoryView C S) (r : Reply C S) (out out2 : List ℕ) (n : ℕ) → TearsDownFew d r →
      TellsReply k r out out2 n → min (length (other_keys d.records) * k.key.SIZE) (2 ^ 63) ≤ length out → Fits out n
  track_whole d r out out2 n (inl e) told room =
      let at : TellsReply k reply.OutOfMemory out out2 n = subst (λ x. TellsReply k x out out2 n) e told in elim at [
        | inl x ↦ absurd (cc (x.0))
        | inr x ↦ refused_whole out refusal.Memory n x.0
      ]
  track_whole d r out out2 n (inr (torn, e, few)) told room =
      let at : TellsReply k (reply.Track torn) out out2 n = subst (λ x. TellsReply k x out out2 n) e told in elim at [
        | inl x ↦ absurd (cc (x.0))
        | inr x ↦ told_whole out out2 (other_keys d.records) n room torn few x
      ]
