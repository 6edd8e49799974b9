-- A setup by numbers: its nanoseconds are refused alike, and what it asks for is done.
use Rattle.std.proofs.Common.{◌≡◌, ℕ, List, Bool, [], ◌∷◌, length, get_or, Option, Some, None, Result, Err, refl, sym, ◌∙◌, ap, subst}
use Rattle.p2p_directory.specs.Nodes.{NodeView}
use Rattle.p2p_directory.specs.declared.node.setup.Setup.{Setup}
use Rattle.p2p_session.specs.declared.refusal.Refusal.{Refusal}
use Rattle.p2p_session.specs.declared.refusal.Refusal.TheVariants as refusal
use Rattle.p2p_session.specs.declared.session.Session.{Session}
use Rattle.p2p_session.specs.declared.setup.Numbers.{Numbers}
use Rattle.std.specs.Prelude.{if◌then◌else◌, ◌==◌}
use Rattle.std.proofs.lemmas.Slice.Eq.{text_from_reads}
use Rattle.p2p_session.specs.Given.{IsSetup, IsSetupRefusal, numbers_of, numbers_at, moment_at, and_then, are_settings}
use Rattle.p2p_session.specs.Sessions.{InitsBy, IsInitRefusal}
use Rattle.p2p_session.specs.Schemes.{Scheme}
use Rattle.p2p_session.specs.Requests.{ServesRequest, request_of, bool_at, with_bool, when, Request}
use Rattle.p2p_session.specs.Requests.Request.{Init}

-- so many numbers, one after the other
pub fourteen : (s : List ℕ) → length s ≡ 14 → s ≡
    get_or s 0 0 ∷ get_or s 1 0 ∷ get_or s 2 0 ∷ get_or s 3 0 ∷ get_or s 4 0 ∷ get_or s 5 0 ∷ get_or s 6 0
    ∷ get_or s 7 0 ∷ get_or s 8 0 ∷ get_or s 9 0 ∷ get_or s 10 0 ∷ get_or s 11 0 ∷ get_or s 12 0 ∷ get_or s 13 0 ∷ []
fourteen s h = text_from_reads s
    (get_or s 0 0 ∷ get_or s 1 0 ∷ get_or s 2 0 ∷ get_or s 3 0 ∷ get_or s 4 0 ∷ get_or s 5 0 ∷ get_or s 6 0
    ∷ get_or s 7 0 ∷ get_or s 8 0 ∷ get_or s 9 0 ∷ get_or s 10 0 ∷ get_or s 11 0 ∷ get_or s 12 0 ∷ get_or s 13 0 ∷ [])
    h (refl, (refl, (refl, (refl, (refl, (refl, (refl, (refl, (refl, (refl, (refl, (refl, (refl, (refl, tt))))))))))))))

-- the numbers of a setup, with its bools and other nanoseconds
abbrev pub numbers_in : List ℕ → Bool → Bool → ℕ → ℕ → ℕ → Numbers
numbers_in s private_ips dns cooldown block bound = numbers_of private_ips dns (get_or s 2 0) (get_or s 3 0)
    (get_or s 4 0) cooldown (get_or s 6 0) block (get_or s 8 0) (get_or s 9 0) (get_or s 10 0) (get_or s 11 0)
    (get_or s 12 0) bound

-- these numbers with other nanoseconds
abbrev pub with_nanos : Numbers → ℕ → ℕ → ℕ → Numbers
with_nanos n cooldown block bound = record n {
  cooldown = (n.cooldown.0, cooldown);
  block = (n.block.0, block);
  bound = (n.bound.0, bound);
}

-- .. that are read alike
pub record AreAlike (n : Numbers) (cooldown block bound : ℕ) : Type 0 where
  pub cooldown_is : moment_at n.cooldown.0 n.cooldown.1 ≡ moment_at n.cooldown.0 cooldown
  pub block_is : moment_at n.block.0 n.block.1 ≡ moment_at n.block.0 block
  pub bound_is : moment_at n.bound.0 n.bound.1 ≡ moment_at n.bound.0 bound

pub numbers_alike : (n : Numbers) (cooldown block bound : ℕ) → AreAlike n cooldown block bound →
    numbers_at n ≡ numbers_at (with_nanos n cooldown block bound)
numbers_alike n cooldown block bound like =
    let f : Result ℕ Refusal → Result ℕ Refusal → Result ℕ Refusal → Result ℕ Refusal =
    λ x y z. if are_settings n then and_then x (λ _. and_then y (λ _. z)) else Err refusal.BadSetting in
    ap (λ x. f x (moment_at n.block.0 n.block.1) (moment_at n.bound.0 n.bound.1)) like.cooldown_is
    ∙ (ap (λ y. f (moment_at n.cooldown.0 cooldown) y (moment_at n.bound.0 n.bound.1)) like.block_is
    ∙ ap (λ z. f (moment_at n.cooldown.0 cooldown) (moment_at n.block.0 block) z) like.bound_is)

module _ {C S : Type 0} (k : Scheme C S) where
  pub setup_alike : (n : Numbers) (cooldown block bound : ℕ) → AreAlike n cooldown block bound →
      (namespace bootstrappers myself : List ℕ) (s : Setup C S) → IsSetup k n namespace bootstrappers myself s →
      IsSetup k (with_nanos n cooldown block bound) namespace bootstrappers myself s
  setup_alike n cooldown block bound like namespace bootstrappers myself s is = record {
    private_ips = is.private_ips;
    dns = is.dns;
    sets = is.sets;
    fails = is.fails;
    cooldown = sym like.cooldown_is ∙ is.cooldown;
    block = sym like.block_is ∙ is.block;
    bits = is.bits;
    peers = is.peers;
    data_length = is.data_length;
    count = is.count;
    bound = sym like.bound_is ∙ is.bound;
    namespace_is = is.namespace_is;
    bootstrappers_are = is.bootstrappers_are;
    are_bootstrappers = is.are_bootstrappers;
    myself_is = is.myself_is;
    is_info = is.is_info;
  }

  pub refusal_alike : (n m : Numbers) → numbers_at n ≡ numbers_at m → (bootstrappers myself : List ℕ)
      (o : Option (NodeView C S)) (why : Refusal) → IsInitRefusal k n bootstrappers myself o why →
      IsInitRefusal k m bootstrappers myself o why
  refusal_alike n m like bootstrappers myself (Some v) why is = is
  refusal_alike n m like bootstrappers myself None why is =
      subst (λ read. IsSetupRefusal k read bootstrappers myself why) like is

  -- a node is made, or isn't, from the one as from the other
  pub init_alike : (n : Numbers) (cooldown block bound : ℕ) → AreAlike n cooldown block bound →
      (namespace bootstrappers myself : List ℕ) (before after : Session C S) (r : ℕ) →
      InitsBy k n namespace bootstrappers myself before after r →
      InitsBy k (with_nanos n cooldown block bound) namespace bootstrappers myself before after r
  init_alike n cooldown block bound like namespace bootstrappers myself before after r is = record {
    made = λ one. let h = is.made one in (
      h.0,
      (h.1.0, setup_alike n cooldown block bound like namespace bootstrappers myself h.1.0 h.1.1, h.1.2),
    );
    refused = λ no. let h = is.refused no in (
      h.0,
      (
        h.1.0,
        refusal_alike n (with_nanos n cooldown block bound) (numbers_alike n cooldown block bound like) bootstrappers
            myself before.node h.1.0 h.1.1,
        h.1.2,
      ),
    );
  }

  -- what a setup by numbers asks for is done, where a node is made from them with nanoseconds that
  -- are read alike
  pub serves_init : (number : ℕ) (s namespace bootstrappers myself : List ℕ) (private_ips dns : Bool) →
      number ≡ 1 → length s ≡ 14 → bool_at (get_or s 0 0) ≡ Some private_ips → bool_at (get_or s 1 0) ≡ Some dns →
      (cooldown block bound : ℕ) → moment_at (get_or s 4 0) cooldown ≡ moment_at (get_or s 4 0) (get_or s 5 0) →
      moment_at (get_or s 6 0) block ≡ moment_at (get_or s 6 0) (get_or s 7 0) →
      moment_at (get_or s 12 0) bound ≡ moment_at (get_or s 12 0) (get_or s 13 0) →
      (before after : Session C S) (r : ℕ) →
      InitsBy k (numbers_in s private_ips dns cooldown block bound) namespace bootstrappers myself before after r →
      ServesRequest k (request_of k number s namespace bootstrappers myself) [] [] before after r
  serves_init number s namespace bootstrappers myself private_ips dns one count is is2 cooldown block bound
      like like2 like3 before after r done =
      let made = init_alike (numbers_in s private_ips dns cooldown block bound) (get_or s 5 0) (get_or s 7 0)
      (get_or s 13 0) (record { cooldown_is = like; block_is = like2; bound_is = like3 }) namespace bootstrappers
      myself before after r done in
      let f : Option Bool → Option Bool → Option (Request C S) = λ p d. with_bool p (λ p. with_bool d (λ d.
      Some (Init (numbers_in s p d (get_or s 5 0) (get_or s 7 0) (get_or s 13 0)) namespace bootstrappers myself))) in
      let Serves : Option (Request C S) → Type 0 = λ asked. ServesRequest k asked [] [] before after r in
      subst (λ l. ServesRequest k (request_of k number l namespace bootstrappers myself) [] [] before after r)
      (sym (fourteen s count))
      (subst (λ n. Serves (when (n == 1) (f (bool_at (get_or s 0 0)) (bool_at (get_or s 1 0))))) (sym one)
      (subst (λ p. Serves (f p (bool_at (get_or s 1 0)))) (sym is)
      (subst (λ d. Serves (f (Some private_ips) d)) (sym is2)
      (refl, made))))
