-- As many links are kept as there are by what was done.
use Rattle.std.proofs.Common.{◌≡◌, ◌+◌, ◌-◌, ℕ, suc, cond, List, [], ◌∷◌, refl, ◌∙◌, arith}
use Rattle.std.specs.Prelude.{length}
use Rattle.std.specs.Map.{values_of}
use Rattle.std.proofs.lemmas.List.Sums.{sum_by-cons}
use Rattle.p2p_driver.specs.Drivers.{AreCounted}
use Rattle.p2p_driver.specs.Happenings.{Happening, inbound_count, dial_count, outbound_count, link_count}
use Rattle.p2p_driver.specs.Links.{count_of, is_way}
use Rattle.p2p_driver.specs.Steps.{outbound_of}
use Rattle.p2p_driver.specs.declared.links.Direction.{Direction}
use Rattle.p2p_driver.specs.declared.links.Direction.TheVariants.{Inbound, Dialing, Outbound, TakenOver}
use Rattle.p2p_driver.specs.declared.links.Held.{Held}

-- how many are of a kind, with one more
counts_one : {C : Type 0} (way : Direction) (e : C × Held) (links : List (C × Held)) →
    count_of way (e ∷ links) ≡ cond (is_way way e.1.direction) 1 0 + count_of way links
counts_one way e links = sum_by-cons (λ h. cond (is_way way h.direction) 1 0) e.1 (values_of links)

-- each link is of one of four kinds
pub of_four : {C : Type 0} (links : List (C × Held)) →
    length links ≡ count_of Inbound links + (count_of Dialing links + count_of Outbound links + count_of TakenOver links)
of_four [] = refl
of_four (e ∷ links) = go e.1.direction _ _ _ _ _ _ _ _ _ (counts_one Inbound e links) (counts_one Dialing e links) (counts_one Outbound e links)
    (counts_one TakenOver e links) (of_four links)
  where
    go : (d : Direction) (i i2 l l2 o o2 t t2 n : ℕ) → i2 ≡ cond (is_way Inbound d) 1 0 + i → l2 ≡ cond (is_way Dialing d) 1 0 + l →
        o2 ≡ cond (is_way Outbound d) 1 0 + o → t2 ≡ cond (is_way TakenOver d) 1 0 + t → n ≡ i + (l + o + t) → suc n ≡ i2 + (l2 + o2 + t2)
    go Inbound i i2 l l2 o o2 t t2 n a b c d all = omega (arith, a, b, c, d, all)
    go Dialing i i2 l l2 o o2 t t2 n a b c d all = omega (arith, a, b, c, d, all)
    go Outbound i i2 l l2 o o2 t t2 n a b c d all = omega (arith, a, b, c, d, all)
    go TakenOver i i2 l l2 o o2 t t2 n a b c d all = omega (arith, a, b, c, d, all)

module _ {C S : Type 0} (h : List (Happening C S)) (links : List (C × Held)) (counts : AreCounted h links) where
  pub as_inbound : count_of Inbound links ≡ inbound_count h
  as_inbound = omega (arith, counts.inbound)

  pub as_dialing : count_of Dialing links ≡ dial_count h
  as_dialing = omega (arith, counts.dialing)

  pub as_outbound : outbound_of links ≡ outbound_count h
  as_outbound = outbound_is (count_of Dialing links) (count_of Outbound links) (count_of TakenOver links) _ _ _ _ _ _
      counts.dialing counts.outbound counts.taken_over
    where
      outbound_is : (d o t dialed reached taken ended lost over : ℕ) → d + (reached + ended) ≡ dialed → o + lost ≡ reached → t + over ≡ taken →
          d + o + t ≡ (dialed + taken) - (ended + lost + over)
      outbound_is d o t dialed reached taken ended lost over one two three = omega (arith, one, two, three)

  pub as_many : length links ≡ link_count h
  as_many = of_four links ∙ λ i. as_inbound i + as_outbound i
