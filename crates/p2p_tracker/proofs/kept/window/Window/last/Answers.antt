use Rattle.std.proofs.Common.{◌≡◌, ◌-◌, ℕ, Bor, Option, Some, None, List, [], ◌∷◌, length, get_or, refl, sym, ◌∙◌, ap, arith}
use Rattle.std.specs.Prelude.{is_some, IfSome, nat_lt}
use Rattle.std.specs.List.{last_or}
use Rattle.std.specs.Option.{option_copied}
use Rattle.std.proofs.lemmas.Bool.{ltb-true, lt-ltb}
use Rattle.p2p_tracker.proofs.SetsAndRecords.Retained.{last_is}
use Rattle.p2p_tracker.proofs.kept.window.Window.last.Goals as goal

last_seen : {A : Type 0} (o : Option (Bor A)) (xs : List A) (n : ℕ) → n ≡ length xs →
    is_some o ≡ nat_lt 0 (length xs) → IfSome o (λ x. x.now ≡ get_or xs (n - 1) x.now) →
    option_copied o ≡ last_or None xs
last_seen None [] n size some at = refl
last_seen None (x ∷ xs) n size some at = absurd (let f = some ∙ lt-ltb 0 (length (x ∷ xs)) (omega arith) in cc)
last_seen (Some x) xs n size some at = last_is None xs x.now (ltb-true 0 (length xs) (sym some)) (at ∙ ap (λ k. get_or xs (k - 1) x.now) size)

pub returns : goal.returns
returns g c = last_seen c.back.result c.self.inside.sets.items c.self.inside.sets.len c.self.inside.sets.ok.0
    c.back.ensures.item.0 c.back.ensures.lookup ∙ ap (last_or None) c.self.view_is
