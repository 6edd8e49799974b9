-- A name is its first label, and a name behind the first dot.
use Rattle.std.proofs.Common.{◌≡◌, ℕ, zero, suc, ◌+◌, ◌-◌, ◌≤◌, ◌<◌, Bool, true, false, cond, not, ◌&&◌, ◌||◌, List, []}
use Rattle.std.proofs.Common.{◌∷◌, length, take, drop, get_or, Some, None, refl, sym, ap, ◌∙◌, arith, eqb, ltb}
use Rattle.std.specs.List.{slice_split, onto_first, position, position_or_len}
use Rattle.std.specs.Str.{IsAscii}
use Rattle.std.proofs.lemmas.Bool.Decides.{nat_tests}
use Rattle.std.proofs.lemmas.Bool.{eqb-true, ltb-true, ltb-false, and_parts, not-false, not-true, false_from_ne_true}
use Rattle.std.proofs.Math.Bool.{and-true, or-true}
use Rattle.std.proofs.lemmas.List.{length-drop, take_all}
use Rattle.std.proofs.lemmas.List.Sums.{fails_before_first, passes_at_first, position_or_len_is}
use Rattle.std.proofs.lemmas.List.Splits.{slice_split_none, slice_split_first}
use Rattle.p2p_discovery.specs.Hostname.{is_hostname, is_label, are_labels, is_name_byte, are_name_bytes}

abbrev is_dot : ℕ → Bool
is_dot b = eqb b 46

found : (b : Bool) (n at : ℕ) → cond b (Some n) None ≡ Some at → (b ≡ true) × (n ≡ at)
found true n at e = (refl, cc)
found false n at e = absurd cc

pub split_some : (text : List ℕ) (at : ℕ) → position is_dot text ≡ Some at → is_hostname text ≡ (is_label (take at text) && is_hostname (drop (at + 1) text))
unfolding is_hostname
split_some text at e =
    let f = found (ltb (position_or_len is_dot text) (length text)) (position_or_len is_dot text) at e in
    ap are_labels (slice_split_first is_dot text 0 (ltb-true _ _ f.0)) ∙ rw f.1 refl

not_found : (b : Bool) (n : ℕ) → cond b (Some n) None ≡ None → b ≡ false
not_found true n e = absurd cc
not_found false n e = refl

pub rest_of : (text : List ℕ) (n : ℕ) → take (length text - n) (drop n text) ≡ drop n text
rest_of text n = take_all (length text - n) (drop n text) (omega (arith, length-drop n text))

-- ---- names are ASCII

abbrev AreNamed : List (List ℕ) → Type 0
AreNamed [] = Unit {0}
AreNamed (l ∷ ls) = (are_name_bytes l ≡ true) × AreNamed ls

label_named : (l : List ℕ) → is_label l ≡ true → are_name_bytes l ≡ true
unfolding is_label
label_named l e =
    let a = and_parts _ (not (eqb (get_or l (length l - 1) 0) 45)) e in
    let b = and_parts _ (not (eqb (get_or l 0 0) 45)) a.0 in
    (and_parts _ (are_name_bytes l) b.0).1

labels_named : (ls : List (List ℕ)) → are_labels ls ≡ true → AreNamed ls
labels_named [] e = tt
labels_named (l ∷ ls) e = let a = and_parts (is_label l) (are_labels ls) e in (label_named l a.0, labels_named ls a.1)

byte_ascii : (b : ℕ) → is_name_byte b ≡ true → b < 128
byte_ascii b e = grind (arith, nat_tests)

cons_named : (t : Bool) (b : ℕ) (parts : List (List ℕ)) → AreNamed (cond t ([] ∷ parts) (onto_first b parts)) →
    (t ≡ true → b < 128) → (b < 128) × AreNamed parts
cons_named true b parts h dot = (dot refl, h.1)
cons_named false b [] h dot = let a = and_parts (is_name_byte b) true h.0 in (byte_ascii b a.0, tt)
cons_named false b (p ∷ ps) h dot = let a = and_parts (is_name_byte b) (are_name_bytes p) h.0 in (byte_ascii b a.0, (a.1, h.1))

parts_ascii : (text : List ℕ) → AreNamed (slice_split is_dot text) → (i : ℕ) → get_or text i 0 < 128
parts_ascii [] h i = omega arith
parts_ascii (b ∷ text) h zero = (cons_named (is_dot b) b (slice_split is_dot text) h (λ e. omega (arith, eqb-true b 46 e))).0
parts_ascii (b ∷ text) h (suc i) = parts_ascii text (cons_named (is_dot b) b (slice_split is_dot text) h (λ e. omega (arith, eqb-true b 46 e))).1 i

pub host_ascii : (text : List ℕ) → is_hostname text ≡ true → IsAscii text
unfolding is_hostname
host_ascii text e = parts_ascii text (labels_named (slice_split is_dot text) e)

-- ---- where a label ends

abbrev pub is_other : ℕ → Bool
is_other b = not (is_name_byte b)

not_other : (b : ℕ) → is_other b ≡ false → is_name_byte b ≡ true
not_other b e = not-false (is_name_byte b) e

name_no_dot : (b : ℕ) → is_name_byte b ≡ true → is_dot b ≡ false
name_no_dot b e = grind (arith, nat_tests)

front_named : (text : List ℕ) (n : ℕ) → n ≤ length text → ((k : ℕ) → k < n → is_name_byte (get_or text k 0) ≡ true) →
    are_name_bytes (take n text) ≡ true
front_named text zero le h = refl
front_named [] (suc n) le h = absurd (omega (arith, le))
front_named (b ∷ text) (suc n) le h =
    rw (h 0 (omega arith)) (front_named text n (omega (arith, le)) (λ k lt. h (suc k) (omega (arith, lt))))

before_end : (text : List ℕ) (k : ℕ) → k < position_or_len is_other text → is_name_byte (get_or text k 0) ≡ true
before_end text k lt = not_other (get_or text k 0) (fails_before_first is_other text k 0 lt)

pub named_whole : (text : List ℕ) → position is_other text ≡ None → are_name_bytes text ≡ true
named_whole text e =
    let le = ltb-false _ _ (not_found (ltb (position_or_len is_other text) (length text)) (position_or_len is_other text) e) in
    ap are_name_bytes (sym (take_all (length text) text (omega arith)))
    ∙ front_named text (length text) (omega arith) (λ k lt. before_end text k (omega (arith, le, lt)))

pub named_front : (text : List ℕ) (at : ℕ) → position is_other text ≡ Some at → are_name_bytes (take at text) ≡ true
named_front text at e =
    let f = found (ltb (position_or_len is_other text) (length text)) (position_or_len is_other text) at e in
    let lt = ltb-true _ _ f.0 in
    front_named text at (omega (arith, lt, f.1)) (λ k h. before_end text k (omega (arith, h, f.1)))

pub one_label : (text : List ℕ) → position is_other text ≡ None → is_hostname text ≡ is_label text
unfolding is_hostname
one_label text e =
    let le = ltb-false _ _ (not_found (ltb (position_or_len is_other text) (length text)) (position_or_len is_other text) e) in
    ap are_labels (slice_split_none is_dot text (λ k d lt.
    name_no_dot (get_or text k d) (not_other (get_or text k d) (fails_before_first is_other text k d (omega (arith, le, lt))))))
    ∙ and-true (is_label text)

pub first_label : (text : List ℕ) (at : ℕ) → position is_other text ≡ Some at → get_or text at 0 ≡ 46 →
    is_hostname text ≡ (is_label (take at text) && is_hostname (drop (at + 1) text))
first_label text at e dot =
    let f = found (ltb (position_or_len is_other text) (length text)) (position_or_len is_other text) at e in
    let lt = ltb-true _ _ f.0 in
    let p : position_or_len is_dot text ≡ at = position_or_len_is is_dot text at 0 (omega (arith, lt, f.1))
    (λ k h. name_no_dot (get_or text k 0) (before_end text k (omega (arith, h, f.1)))) (λ _. rw dot refl) in
    let l : ltb at (length text) ≡ true = rw f.1 at f.0 in
    split_some text at (rw (p, l) refl)

-- a byte of a name is a dot or one of a label
cons_part : (t : Bool) (b : ℕ) (parts : List (List ℕ)) → AreNamed (cond t ([] ∷ parts) (onto_first b parts)) →
    (is_name_byte b || t ≡ true) × AreNamed parts
cons_part true b parts h = (or-true (is_name_byte b), h.1)
cons_part false b [] h = let a = and_parts (is_name_byte b) true h.0 in (rw a.0 refl, tt)
cons_part false b (p ∷ ps) h = let a = and_parts (is_name_byte b) (are_name_bytes p) h.0 in (rw a.0 refl, (a.1, h.1))

parts_are : (text : List ℕ) → AreNamed (slice_split is_dot text) → (i : ℕ) → i < length text →
    is_name_byte (get_or text i 0) || is_dot (get_or text i 0) ≡ true
parts_are [] h i lt = absurd (omega (arith, lt))
parts_are (b ∷ text) h zero lt = (cons_part (is_dot b) b (slice_split is_dot text) h).0
parts_are (b ∷ text) h (suc i) lt = parts_are text (cons_part (is_dot b) b (slice_split is_dot text) h).1 i (omega (arith, lt))

pub no_name : (text : List ℕ) (at : ℕ) → position is_other text ≡ Some at → (get_or text at 0 ≡ 46 → ⊥) →
    is_hostname text ≡ false
unfolding is_hostname
no_name text at e other =
    let f = found (ltb (position_or_len is_other text) (length text)) (position_or_len is_other text) at e in
    let lt = ltb-true _ _ f.0 in
    let p : is_other (get_or text at 0) ≡ true = rw f.1 at (passes_at_first is_other text 0 lt) in
    false_from_ne_true (are_labels (slice_split is_dot text)) (λ h.
    let a = parts_are text (labels_named (slice_split is_dot text) h) at (omega (arith, lt, f.1)) in
    let n : is_name_byte (get_or text at 0) ≡ false = not-true (is_name_byte (get_or text at 0)) p in
    let d : is_dot (get_or text at 0) ≡ true = rw n at a in
    other (eqb-true (get_or text at 0) 46 d))
