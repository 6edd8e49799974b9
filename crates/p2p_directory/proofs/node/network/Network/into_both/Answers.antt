use Rattle.std.proofs.Common.{◌≡◌, ◌+◌, List, [], ◌∷◌, ◌++◌, length, Option, Some, sym, ap, ◌∙◌, arith}
use Rattle.std.specs.Prelude.{option_to_list}
use Rattle.std.proofs.lemmas.List.{length-append}
use Rattle.p2p_directory.proofs.node.network.Network.into_both.Goals as goal

-- a list of two, of which both are taken off the end
two : {A : Type 0} (es e1 e2 seen : List A) (r1 r2 : Option A) (x y : A) →
    es ≡ e1 ++ option_to_list r1 → r1 ≡ Some x → e1 ≡ e2 ++ option_to_list r2 → r2 ≡ Some y → es ≡ seen →
    length seen ≡ 2 → seen ≡ y ∷ x ∷ []
two es e1 [] seen r1 r2 x y p is1 q is2 view pair =
    sym view ∙ p ∙ ap (λ r. e1 ++ option_to_list r) is1
    ∙ ap (λ e. e ++ x ∷ []) (q ∙ ap option_to_list is2)
two es e1 (z ∷ e2) seen r1 r2 x y p is1 q is2 view pair =
    let a : length seen ≡ length es = sym (ap length view) in
    let b : length es ≡ length e1 + 1 = ap length (p ∙ ap (λ r. e1 ++ option_to_list r) is1)
    ∙ length-append e1 (x ∷ []) in
    let d : length e1 ≡ length (z ∷ e2) + 1 = ap length (q ∙ ap (λ r. (z ∷ e2) ++ option_to_list r) is2)
    ∙ length-append (z ∷ e2) (y ∷ []) in
    absurd (omega (arith, a, b, d, pair))

pub returns : goal.returns
returns g c = two c.self.inside.nodes.items c.pop.new.self.items c.pop-in-Some.new.self.items c.args.self
    c.pop.result c.pop-in-Some.result c.in-Some.right c.in-Some-pop.left
    c.pop.ensures.items c.in-Some.is c.pop-in-Some.ensures.items c.in-Some-pop.is c.self.view_is c.requires
