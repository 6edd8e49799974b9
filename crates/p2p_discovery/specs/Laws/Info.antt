-- Infos and lists of them are read by their spelling, which has the bounds that are said of it.
use Rattle.std.proofs.Common.{ℕ, ◌+◌, List, [], ◌∷◌, Option, refl, lit<}
use Rattle.std.specs.List.{AllByRecursion}
use Rattle.p2p_discovery.specs.declared.codec.error.RangeCfg.{RangeCfg}
use Rattle.p2p_discovery.specs.declared.codec.error.What.TheVariants as what
use Rattle.p2p_discovery.specs.Reading.{Lawful}
use Rattle.p2p_discovery.specs.Laws.Fields.{lawful_both, lawful_as, lawful_same}
use Rattle.p2p_discovery.specs.Fixed.{IsFixed}
use Rattle.p2p_discovery.specs.Laws.Fixed.{lawful_fixed}
use Rattle.p2p_discovery.specs.Laws.Ingress.{lawful_ingress}
use Rattle.p2p_discovery.specs.Laws.Lists.{lawful_list}
use Rattle.p2p_discovery.specs.Laws.Varint.{groups_lawful}
use Rattle.p2p_discovery.specs.Info.{IsInfo, IsKeyed, info_spelling, info_at, infos_spelling}
use Rattle.p2p_discovery.specs.Info.{AreAllowed, infos_at}

-- ---- both facts of each

each_first : {A : Type 0} (P Q : A → Type 0) (xs : List A) → AllByRecursion (λ x. P x × Q x) xs
    → AllByRecursion P xs
each_first P Q [] h = tt
each_first P Q (x ∷ xs) h = (h.0.0, each_first P Q xs h.1)

each_second : {A : Type 0} (P Q : A → Type 0) (xs : List A) → AllByRecursion (λ x. P x × Q x) xs
    → AllByRecursion Q xs
each_second P Q [] h = tt
each_second P Q (x ∷ xs) h = (h.0.1, each_second P Q xs h.1)

each_both : {A : Type 0} (P Q : A → Type 0) (xs : List A) → AllByRecursion P xs
    → AllByRecursion Q xs → AllByRecursion (λ x. P x × Q x) xs
each_both P Q [] h k = tt
each_both P Q (x ∷ xs) h k = ((h.0, k.0), each_both P Q xs h.1 k.1)

module _ {C S : Type 0} {key_size signature_size : ℕ} {spell_key : C → List ℕ}
    {spell_signature : S → List ℕ} {key : List ℕ → Option C} {signature : List ℕ → Option S}
    {IsKey : C → Type 0} {IsSignature : S → Type 0}
    (k : IsFixed key_size spell_key key IsKey)
    (s : IsFixed signature_size spell_signature signature IsSignature) where
  pub lawful_info : Lawful (info_at key_size key signature_size signature)
      (info_spelling spell_key spell_signature) (λ i. IsInfo i × IsKeyed IsKey IsSignature i)
  unfolding info_at
  lawful_info =
      lawful_as
      (λ p.
      record { ingress = p.0; timestamp = p.1.0; public_key = p.1.1.0; signature = p.1.1.1 })
      (λ i. (i.ingress, (i.timestamp, (i.public_key, i.signature))))
      (info_spelling spell_key spell_signature) (λ i. IsInfo i × IsKeyed IsKey IsSignature i)
      (λ p h. (
        (
          record { ingress = h.0; timestamp = h.1.0 },
          record { key = h.1.1.0; signature = h.1.1.1 },
        ),
        refl,
      ))
      (λ i h. (refl, (h.0.ingress, (h.0.timestamp, (h.1.key, h.1.signature))), refl))
      (lawful_both lawful_ingress
      (lawful_both (groups_lawful 10 1 9 (lit< tt))
      (lawful_both (lawful_fixed what.Key k) (lawful_fixed what.Signature s))))

  pub lawful_infos : (limit : RangeCfg)
      → Lawful (infos_at key_size key signature_size signature limit)
      (infos_spelling spell_key spell_signature)
      (λ is. AllByRecursion IsInfo is × AreAllowed IsKey IsSignature limit is)
  lawful_infos limit =
      lawful_same
      (λ is h. (
        each_first _ _ is h.0,
        record { within = h.1.0; small = h.1.1; keyed = each_second _ _ is h.0 },
      ))
      (λ is h. (each_both _ _ is h.0 h.1.keyed, (h.1.within, h.1.small)))
      (lawful_list limit (6 + key_size + signature_size) lawful_info)
