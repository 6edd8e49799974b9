-- Reading the groups of a number one after the other, as a loop does.
use Rattle.std.proofs.Common.{◌≡◌, ℕ, zero, suc, ◌+◌, ◌-◌, ◌*◌, ◌^◌, ◌≤◌, ◌<◌, Bool, true, false, cond, ◌&&◌, ◌||◌}
use Rattle.std.proofs.Common.{List, [], ◌∷◌, Result, Ok, Err, refl, sym, ap, ◌∙◌, arith, eqb, ltb, add-one}
use Rattle.std.proofs.Math.Nat.{pow-suc, mul-le-mul_left}
use Rattle.std.proofs.lemmas.Bool.{le-ltb, lt-ltb}
use Rattle.p2p_discovery.specs.declared.codec.error.CodecError.{CodecError}
use Rattle.p2p_discovery.specs.declared.codec.error.CodecError.TheVariants.{InvalidVarint}
use Rattle.p2p_discovery.specs.Reading.{Reading, ◌>>=◌, reads, refuses, byte_at, outcome_then, Fails, Gives}
use Rattle.p2p_discovery.specs.Varint.{groups_at, last_group}
use Rattle.p2p_discovery.specs.Laws.Varint.{at_zero, at_more}
use Rattle.p2p_discovery.proofs.ReadLaws.{fails_first, gives_next}

-- THE STEPS OF THE READER

pub first_fails : (e : CodecError) (most top : ℕ) (started : Bool) (left : ℕ) (bytes : List ℕ)
    → Fails e (byte_at bytes) → Fails e (groups_at most top started left bytes)
unfolding groups_at
first_fails e most top started zero bytes h = fails_first e byte_at _ bytes h
first_fails e most top started (suc left) bytes h = fails_first e byte_at _ bytes h

pub low_gives : (most top : ℕ) (started : Bool) (left less : ℕ) (bytes : List ℕ) (b : ℕ)
    (rest : List ℕ) (result : Result ℕ CodecError) → left ≡ suc less
    → (byte_at bytes).outcome ≡ Ok (b, rest) → b < 128
    → Gives result rest (last_group most 127 started b rest)
    → Gives result rest (groups_at most top started left bytes)
low_gives most top started left less bytes b rest result z o lt h =
    rw (at_more most top started left less bytes z)
    (gives_next result rest byte_at _ bytes b rest o (rw (lt-ltb b 128 lt) h))

-- A LOOP

-- What is still read, as so many units beside what was read before, is the whole number.
abbrev pub SumsTo : ℕ → ℕ → ℕ → ℕ → ℕ → List ℕ → Reading ℕ → Type 0
SumsTo most top left sum unit rest total =
    outcome_then (groups_at most top true left rest).outcome (λ high. reads (sum + unit * high)) ≡ total.outcome

module _ (most top : ℕ) where
  pub starts : (left now first : ℕ) (rest : List ℕ) → now ≡ left → 128 ≤ first →
      SumsTo most top now (first - 128) 128 rest (groups_at most top false (left + 1) (first ∷ rest))
  starts left now first rest k le =
      rw (k, at_more most top false (left + 1) left (first ∷ rest) (omega arith), le-ltb first 128 le) refl

  regroup : (sum unit low : ℕ) (read : Result (ℕ × List ℕ) CodecError) →
      outcome_then (outcome_then read (λ high. reads (low + 128 * high))) (λ high. reads (sum + unit * high))
      ≡ outcome_then read (λ high. reads ((sum + unit * low) + (unit * 128) * high))
  regroup sum unit low (Ok x) = ap (λ (n : ℕ). Ok (n, x.1)) (omega arith)
  regroup sum unit low (Err e) = refl

  next_outcome : {B : Type 0} (f : ℕ → List ℕ → Reading B) (rest : List ℕ) (b : ℕ) (after : List ℕ) →
      (byte_at rest).outcome ≡ Ok (b, after) → ((byte_at >>= f) rest).outcome ≡ (f b after).outcome
  next_outcome f rest b after o = rw o refl

  -- what comes behind a byte, where more can come
  abbrev behind : ℕ → ℕ → List ℕ → Reading ℕ
  behind less b after =
      cond (ltb b 128) (last_group most 127 true b after)
      ((groups_at most top true less >>= λ high. reads (b - 128 + 128 * high)) after)

  next_is : (left less b : ℕ) (rest after : List ℕ) → left ≡ suc less → (byte_at rest).outcome ≡ Ok (b, after) → 128 ≤ b →
      (groups_at most top true left rest).outcome
      ≡ outcome_then (groups_at most top true less after).outcome (λ high. reads (b - 128 + 128 * high))
  next_is left less b rest after k o le =
      ap (λ (r : Reading ℕ). r.outcome) (at_more most top true left less rest k) ∙ next_outcome (behind less) rest b after o
      ∙ rw (le-ltb b 128 le) refl

  pub sums_on : (left less sum unit b : ℕ) (rest after : List ℕ) (total : Reading ℕ) → left ≡ suc less →
      (byte_at rest).outcome ≡ Ok (b, after) → 128 ≤ b → SumsTo most top left sum unit rest total →
      SumsTo most top less (sum + unit * (b - 128)) (unit * 128) after total
  sums_on left less sum unit b rest after total k o le so_far =
      sym (regroup sum unit (b - 128) (groups_at most top true less after).outcome)
      ∙ ap (λ r. outcome_then r (λ high. reads (sum + unit * high))) (sym (next_is left less b rest after k o le))
      ∙ so_far

  -- the last group, behind which more could come
  low_is : (left less b : ℕ) (rest after : List ℕ) → left ≡ suc less → (byte_at rest).outcome ≡ Ok (b, after) → b < 128 →
      (groups_at most top true left rest).outcome ≡ (last_group most 127 true b after).outcome
  low_is left less b rest after k o lt =
      ap (λ (r : Reading ℕ). r.outcome) (at_more most top true left less rest k) ∙ next_outcome (behind less) rest b after o
      ∙ rw (lt-ltb b 128 lt) refl

  -- the last group in the last place
  last_is : (left b : ℕ) (rest after : List ℕ) → left ≡ 0 → (byte_at rest).outcome ≡ Ok (b, after) →
      (groups_at most top true left rest).outcome ≡ (last_group most top true b after).outcome
  last_is left b rest after k o =
      ap (λ (r : Reading ℕ). r.outcome) (at_zero most top true left rest k)
      ∙ next_outcome (last_group most top true) rest b after o

  quiet_byte : (rest : List ℕ) → (byte_at rest).grows ≡ false
  quiet_byte [] = refl
  quiet_byte (b ∷ rest) = refl

  quiet_cond : (t : Bool) (e : CodecError) (b : ℕ) (rest : List ℕ) → (cond t (refuses e rest) (reads b rest)).grows ≡ false
  quiet_cond true e b rest = refl
  quiet_cond false e b rest = refl

  quiet_last : (top b : ℕ) (rest : List ℕ) → (last_group most top true b rest).grows ≡ false
  quiet_last top b rest = quiet_cond (ltb top b || (true && eqb b 0)) (InvalidVarint most) b rest

  -- a fault here, where no memory is asked for, is the fault
  fault_is : {A : Type 0} (e : CodecError) (here : Reading A) (total : Reading ℕ) → here.grows ≡ false → Fails e here →
      (here.outcome ≡ Err e → total.outcome ≡ Err e) → Fails e total
  fault_is e here total quiet h on = (λ n. on (h.0 n), λ m. absurd (let g = sym quiet ∙ h.1 m in cc))

  pub no_byte : (left sum unit : ℕ) (rest : List ℕ) (total : Reading ℕ) (e : CodecError) → Fails e (byte_at rest) →
      SumsTo most top left sum unit rest total → Fails e total
  no_byte left sum unit rest total e h so_far = (
    λ n. sym so_far ∙ rw ((first_fails e most top true left rest h).0 n) refl,
    λ m. absurd (let g = sym (quiet_byte rest) ∙ h.1 m in cc),
  )

  pub low_fault : (left less sum unit b : ℕ) (rest after : List ℕ) (total : Reading ℕ) (e : CodecError) → left ≡ suc less →
      (byte_at rest).outcome ≡ Ok (b, after) → b < 128 → Fails e (last_group most 127 true b after) →
      SumsTo most top left sum unit rest total → Fails e total
  low_fault left less sum unit b rest after total e k o lt h so_far =
      fault_is e (last_group most 127 true b after) total (quiet_last 127 b after) h
      (λ f. sym so_far ∙ rw (low_is left less b rest after k o lt, f) refl)

  pub last_fault : (left sum unit b : ℕ) (rest after : List ℕ) (total : Reading ℕ) (e : CodecError) → left ≡ 0 →
      (byte_at rest).outcome ≡ Ok (b, after) → Fails e (last_group most top true b after) →
      SumsTo most top left sum unit rest total → Fails e total
  last_fault left sum unit b rest after total e k o h so_far =
      fault_is e (last_group most top true b after) total (quiet_last top b after) h
      (λ f. sym so_far ∙ rw (last_is left b rest after k o, f) refl)

  pub low_sum : (left less sum unit b n : ℕ) (rest after : List ℕ) (total : Reading ℕ) → left ≡ suc less →
      (byte_at rest).outcome ≡ Ok (b, after) → b < 128 → (last_group most 127 true b after).outcome ≡ Ok (n, after) →
      SumsTo most top left sum unit rest total → total.outcome ≡ Ok (sum + unit * n, after)
  low_sum left less sum unit b n rest after total k o lt h so_far =
      sym so_far ∙ rw (low_is left less b rest after k o lt, h) refl

  pub last_sum : (left sum unit b n : ℕ) (rest after : List ℕ) (total : Reading ℕ) → left ≡ 0 →
      (byte_at rest).outcome ≡ Ok (b, after) → (last_group most top true b after).outcome ≡ Ok (n, after) →
      SumsTo most top left sum unit rest total → total.outcome ≡ Ok (sum + unit * n, after)
  last_sum left sum unit b n rest after total k o h so_far =
      sym so_far ∙ rw (last_is left b rest after k o, h) refl

  -- a number of one group
  pub one_group : (left b : ℕ) (rest after : List ℕ) → 0 < left → (byte_at rest).outcome ≡ Ok (b, after) → b < 128 →
      (groups_at most top false left rest).outcome ≡ Ok (b, after)
  one_group left b rest after some o lt =
      low_gives most top false left (left - 1) rest b after (Ok b) (omega arith) o lt (rw (le-ltb 127 b (omega arith)) refl)

-- ---- how large the number is

some_power : (k : ℕ) → 0 < 128 ^ k
some_power zero = omega arith
some_power (suc k) = rw (pow-suc 128 k) (omega (arith, some_power k))

times_some : (n p : ℕ) → 0 < p → n ≤ n * p
times_some n p h = omega (arith, mul-le-mul_left n h)

pub unit_starts : (left now : ℕ) → now ≡ left → 128 * 128 ^ now ≡ 128 ^ (left + 1)
unit_starts left now k = rw (k, add-one, pow-suc 128 left) (omega arith)

pub unit_step : (unit left less whole : ℕ) → left ≡ suc less → unit * 128 ^ left ≡ whole → (unit * 128) * 128 ^ less ≡ whole
unit_step unit left less whole k e = let p : unit * (128 ^ less * 128) ≡ whole = rw (k, pow-suc 128 less) at e in omega (arith, p)

pub unit_within : (unit left less whole : ℕ) → left ≡ suc less → unit * 128 ^ left ≡ whole → unit * 128 ≤ whole
unit_within unit left less whole k e =
    omega (arith, unit_step unit left less whole k e, times_some (unit * 128) (128 ^ less) (some_power less))

pub half : (top whole : ℕ) → 0 < top → (top + 1) * whole ≤ 2 ^ 64 → whole ≤ 2 ^ 63
half top whole some fits = omega (arith, mul-le-mul_left whole some)

pub within_more : (top whole : ℕ) → whole ≤ (top + 1) * whole
within_more top whole = omega arith

pub product : (unit n most : ℕ) → n ≤ most → unit * n ≤ unit * most
product unit n most le = mul-le-mul_left unit le
