use Rattle.std.proofs.Common.{◌≡◌, ◌≤◌, ◌<◌, ℕ, List, [], ◌∷◌, length, codes, map, string_bytes, slice_index_or, sym, refl, ap, ◌∙◌, arith}
use Rattle.std.specs.Prelude.{String}
use Rattle.worked_examples.specs.Words.{IsRow, rows}
use Rattle.worked_examples.proofs.row.run_rows.Goals as goal
use Rattle.worked_examples.proofs.row.run_rows.Goals.{in-text, in-text-2, in-text-3, in-text-4, in-text-5, in-text-6, in-text-7}
use Rattle.worked_examples.proofs.row.run_rows.Goals.{in-text-8, in-text-9, in-text-10, in-text-11, in-text-12, in-text-13}
use Rattle.worked_examples.proofs.row.run_rows.Goals.{in-text-14, in-text-15, in-text-16, in-text-17, in-text-18, in-text-19}
use Rattle.worked_examples.proofs.row.run_rows.Goals.{in-text-20, in-text-21, in-text-22, in-text-23, in-text-24}

-- a word that is the number at this place names a row
is_row : {Z : Type 0} (words : List (String Z)) (word : String Z) (text number : List ℕ) (place : ℕ) → 1 ≤ length words → length words < 2 →
    word ≡ slice_index_or words 0 word → text ≡ string_bytes word → text ≡ number → place < length rows →
    slice_index_or rows place number ≡ number → IsRow (map string_bytes words)
is_row [] word text number place some few first is named below there = absurd (omega arith)
is_row (w ∷ []) word text number place some few first is named below there =
    record { word = number; alone = ap (λ t. t ∷ []) (sym (ap string_bytes first) ∙ sym is ∙ named); listed = (place, below, there) }
is_row (w ∷ x ∷ ws) word text number place some few first is named below there = absurd (omega arith)

pub returns-clause-other : goal.returns-clause-other
returns-clause-other g c = λ no. absurd (no (elim c.match-as_str.branch [
  | in-text w ↦ is_row c.args.words.now c.word-item.result c.as_str.result.now (codes "1") 0 c.in-len1.len_at_least
      c.in-len1.len_below c.word-item.is c.as_str.ensures.value w.in-text.is (omega arith) refl
  | in-text-2 w ↦ is_row c.args.words.now c.word-item.result c.as_str.result.now (codes "2") 1
      c.in-len1.len_at_least c.in-len1.len_below c.word-item.is c.as_str.ensures.value w.in-text-2.is (omega arith)
      refl
  | in-text-3 w ↦ is_row c.args.words.now c.word-item.result c.as_str.result.now (codes "3") 2
      c.in-len1.len_at_least c.in-len1.len_below c.word-item.is c.as_str.ensures.value w.in-text-3.is (omega arith)
      refl
  | in-text-4 w ↦ is_row c.args.words.now c.word-item.result c.as_str.result.now (codes "4") 3
      c.in-len1.len_at_least c.in-len1.len_below c.word-item.is c.as_str.ensures.value w.in-text-4.is (omega arith)
      refl
  | in-text-5 w ↦ is_row c.args.words.now c.word-item.result c.as_str.result.now (codes "5") 4
      c.in-len1.len_at_least c.in-len1.len_below c.word-item.is c.as_str.ensures.value w.in-text-5.is (omega arith)
      refl
  | in-text-6 w ↦ is_row c.args.words.now c.word-item.result c.as_str.result.now (codes "6") 5
      c.in-len1.len_at_least c.in-len1.len_below c.word-item.is c.as_str.ensures.value w.in-text-6.is (omega arith)
      refl
  | in-text-7 w ↦ is_row c.args.words.now c.word-item.result c.as_str.result.now (codes "7") 6
      c.in-len1.len_at_least c.in-len1.len_below c.word-item.is c.as_str.ensures.value w.in-text-7.is (omega arith)
      refl
  | in-text-8 w ↦ is_row c.args.words.now c.word-item.result c.as_str.result.now (codes "8") 7
      c.in-len1.len_at_least c.in-len1.len_below c.word-item.is c.as_str.ensures.value w.in-text-8.is (omega arith)
      refl
  | in-text-9 w ↦ is_row c.args.words.now c.word-item.result c.as_str.result.now (codes "9") 8
      c.in-len1.len_at_least c.in-len1.len_below c.word-item.is c.as_str.ensures.value w.in-text-9.is (omega arith)
      refl
  | in-text-10 w ↦ is_row c.args.words.now c.word-item.result c.as_str.result.now (codes "10") 9
      c.in-len1.len_at_least c.in-len1.len_below c.word-item.is c.as_str.ensures.value w.in-text-10.is
      (omega arith) refl
  | in-text-11 w ↦ is_row c.args.words.now c.word-item.result c.as_str.result.now (codes "11") 10
      c.in-len1.len_at_least c.in-len1.len_below c.word-item.is c.as_str.ensures.value w.in-text-11.is
      (omega arith) refl
  | in-text-12 w ↦ is_row c.args.words.now c.word-item.result c.as_str.result.now (codes "12") 11
      c.in-len1.len_at_least c.in-len1.len_below c.word-item.is c.as_str.ensures.value w.in-text-12.is
      (omega arith) refl
  | in-text-13 w ↦ is_row c.args.words.now c.word-item.result c.as_str.result.now (codes "13") 12
      c.in-len1.len_at_least c.in-len1.len_below c.word-item.is c.as_str.ensures.value w.in-text-13.is
      (omega arith) refl
  | in-text-14 w ↦ is_row c.args.words.now c.word-item.result c.as_str.result.now (codes "14") 13
      c.in-len1.len_at_least c.in-len1.len_below c.word-item.is c.as_str.ensures.value w.in-text-14.is
      (omega arith) refl
  | in-text-15 w ↦ is_row c.args.words.now c.word-item.result c.as_str.result.now (codes "15") 14
      c.in-len1.len_at_least c.in-len1.len_below c.word-item.is c.as_str.ensures.value w.in-text-15.is
      (omega arith) refl
  | in-text-16 w ↦ is_row c.args.words.now c.word-item.result c.as_str.result.now (codes "16") 15
      c.in-len1.len_at_least c.in-len1.len_below c.word-item.is c.as_str.ensures.value w.in-text-16.is
      (omega arith) refl
  | in-text-17 w ↦ is_row c.args.words.now c.word-item.result c.as_str.result.now (codes "17") 16
      c.in-len1.len_at_least c.in-len1.len_below c.word-item.is c.as_str.ensures.value w.in-text-17.is
      (omega arith) refl
  | in-text-18 w ↦ is_row c.args.words.now c.word-item.result c.as_str.result.now (codes "18") 17
      c.in-len1.len_at_least c.in-len1.len_below c.word-item.is c.as_str.ensures.value w.in-text-18.is
      (omega arith) refl
  | in-text-19 w ↦ is_row c.args.words.now c.word-item.result c.as_str.result.now (codes "19") 18
      c.in-len1.len_at_least c.in-len1.len_below c.word-item.is c.as_str.ensures.value w.in-text-19.is
      (omega arith) refl
  | in-text-20 w ↦ is_row c.args.words.now c.word-item.result c.as_str.result.now (codes "20") 19
      c.in-len1.len_at_least c.in-len1.len_below c.word-item.is c.as_str.ensures.value w.in-text-20.is
      (omega arith) refl
  | in-text-21 w ↦ is_row c.args.words.now c.word-item.result c.as_str.result.now (codes "21") 20
      c.in-len1.len_at_least c.in-len1.len_below c.word-item.is c.as_str.ensures.value w.in-text-21.is
      (omega arith) refl
  | in-text-22 w ↦ is_row c.args.words.now c.word-item.result c.as_str.result.now (codes "22") 21
      c.in-len1.len_at_least c.in-len1.len_below c.word-item.is c.as_str.ensures.value w.in-text-22.is
      (omega arith) refl
  | in-text-23 w ↦ is_row c.args.words.now c.word-item.result c.as_str.result.now (codes "23") 22
      c.in-len1.len_at_least c.in-len1.len_below c.word-item.is c.as_str.ensures.value w.in-text-23.is
      (omega arith) refl
  | in-text-24 w ↦ is_row c.args.words.now c.word-item.result c.as_str.result.now (codes "24") 23
      c.in-len1.len_at_least c.in-len1.len_below c.word-item.is c.as_str.ensures.value w.in-text-24.is
      (omega arith) refl
]))
