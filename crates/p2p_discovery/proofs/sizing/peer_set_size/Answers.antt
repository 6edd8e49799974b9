use Rattle.std.proofs.Common.{◌+◌, ◌^◌, length, refl, sym, ap, ◌∙◌, subst, inl, inr, arith}
use Rattle.std.specs.Option.{option_copied}
use Rattle.p2p_discovery.specs.Sizing.{IsUnionSize}
use Rattle.p2p_discovery.proofs.Unions.{extended, unextended, fits_without, in_from_any, not_in_from_any}
use Rattle.p2p_discovery.proofs.sizing.peer_set_size.Goals as goal

pub union_size-size-requires-clause-fits : goal.union_size-size-requires-clause-fits
union_size-size-requires-clause-fits g c = λ all u.
    fits_without g.met.P.Ord.total g.met.P.PublicKey.exact c.args.primary.now c.args.secondary.now
    (option_copied c.args.extension) (length all) (2 ^ 64) (all, u, refl) c.requires.fits

-- the extension stands in neither list
pub overflow_add-result : goal.overflow_add-result
overflow_add-result g c =
    let apart = not_in_from_any g.P.PartialEq.eq g.met.P.Eq.laws.refl c.args.primary.now c.in-Some.peer.now
    (sym c.contains.ensures.value ∙ c.if-not-contains.true) in
    let apart_too = not_in_from_any g.P.PartialEq.eq g.met.P.Eq.laws.refl c.args.secondary.now c.in-Some.peer.now
    (sym c.contains-then-not-contains.ensures.value ∙ c.if-not-contains-2.true) in
    let more = extended g.met.P.Ord.total g.met.P.PublicKey.exact c.args.primary.now c.args.secondary.now
    c.in-Some.peer.now c.union_size-size.result apart apart_too c.union_size-size.ensures in
    let v = subst
    (λ o. IsUnionSize g.P.Ord.cmp c.args.primary.now c.args.secondary.now o (c.union_size-size.result + 1))
    (sym (ap option_copied c.in-Some.is)) more in
    omega (arith, v.2, c.requires.fits v.0 v.1)

pub returns-in-Some : goal.returns-in-Some
returns-in-Some g c =
    let apart = not_in_from_any g.P.PartialEq.eq g.met.P.Eq.laws.refl c.args.primary.now c.in-Some.peer.now
    (sym c.contains.ensures.value ∙ c.if-not-contains.true) in
    let apart_too = not_in_from_any g.P.PartialEq.eq g.met.P.Eq.laws.refl c.args.secondary.now c.in-Some.peer.now
    (sym c.contains-then-not-contains.ensures.value ∙ c.if-not-contains-2.true) in
    let more = extended g.met.P.Ord.total g.met.P.PublicKey.exact c.args.primary.now c.args.secondary.now
    c.in-Some.peer.now c.union_size-size.result apart apart_too c.union_size-size.ensures in
    subst (λ o. IsUnionSize g.P.Ord.cmp c.args.primary.now c.args.secondary.now o (c.union_size-size.result + 1)) (sym (ap option_copied c.in-Some.is)) more

-- it stands in the second
pub returns-in_default : goal.returns-in_default
returns-in_default g c =
    let there = in_from_any g.P.PartialEq.eq g.met.P.FixedBytes.one_value c.args.secondary.now c.in-Some.peer.now
    (sym c.contains-then-not-contains.ensures.value ∙ c.if-not-contains-2.false) in
    let same = unextended g.met.P.Ord.total g.met.P.PublicKey.exact c.args.primary.now c.args.secondary.now
    c.in-Some.peer.now c.union_size-size.result (inr there) c.union_size-size.ensures in
    subst (λ o. IsUnionSize g.P.Ord.cmp c.args.primary.now c.args.secondary.now o c.union_size-size.result) (sym (ap option_copied c.in-Some.is)) same

-- it stands in the first
pub returns-in_default-2 : goal.returns-in_default-2
returns-in_default-2 g c =
    let there = in_from_any g.P.PartialEq.eq g.met.P.FixedBytes.one_value c.args.primary.now c.in-Some.peer.now
    (sym c.contains.ensures.value ∙ c.if-not-contains.false) in
    let same = unextended g.met.P.Ord.total g.met.P.PublicKey.exact c.args.primary.now c.args.secondary.now
    c.in-Some.peer.now c.union_size-size.result (inl there) c.union_size-size.ensures in
    subst (λ o. IsUnionSize g.P.Ord.cmp c.args.primary.now c.args.secondary.now o c.union_size-size.result) (sym (ap option_copied c.in-Some.is)) same
