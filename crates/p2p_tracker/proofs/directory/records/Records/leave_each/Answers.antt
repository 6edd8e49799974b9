use Rattle.std.proofs.Common.{◌≡◌, ℕ, ◌<◌, ◌+◌, ◌++◌, ◌∷◌, [], Bool, false, cond, List, take, get_or, length, sym, ◌∙◌, ap, arith, append_assoc}
use Rattle.std.specs.Option.{option_map_or}
use Rattle.std.specs.List.{filter}
use Rattle.std.proofs.lemmas.List.Elements.{filter_more}
use Rattle.p2p_tracker.specs.Private.Counts.{one_set_less, is_torn_down_without}
use Rattle.p2p_tracker.specs.Seen.{record_at}
use Rattle.p2p_tracker.proofs.SetsAndRecords.Naming.{one_changed, not_yet}
use Rattle.p2p_tracker.proofs.directory.records.Records.leave_each.Goals as goal

-- one peer more
added : {A : Type 0} (test : A → Bool) (b : Bool) (x : A) (xs before now new : List A) (i : ℕ) → i < length xs → x ≡ get_or xs i x → b ≡ test x →
    now ≡ before ++ filter test (take i xs) → new ≡ now ++ cond b (x ∷ []) [] → new ≡ before ++ filter test (take (i + 1) xs)
added test b x xs before now new i low is tests so_far push =
    push
    ∙ (λ j. so_far j ++ cond (tests j) (x ∷ []) [])
    ∙ append_assoc before (filter test (take i xs)) (cond (test x) (x ∷ []) [])
    ∙ ap (λ y. before ++ (filter test (take i xs) ++ cond (test y) (y ∷ []) [])) is
    ∙ ap (λ ys. before ++ ys) (sym (filter_more test xs i x low))

pub loop-peer-preserved : goal.loop-peer-preserved
loop-peer-preserved g c =
    let cmp = g.C.Ord.cmp in
    let i = c.loop-peer.peer-index in
    let x = c.peer-item.result in
    let keys = c.args.peers.now in
    let test : g.row.C.Denot → Bool = λ q. option_map_or (is_torn_down_without c.args.role) (record_at cmp c.args.self.now q) false in
    let before : record_at cmp c.loop-peer.self x ≡ record_at cmp c.args.self.now x =
    c.loop-peer.invariant.records x
    ∙ ap (λ b. cond b (one_set_less c.args.role (record_at cmp c.args.self.now x)) (record_at cmp c.args.self.now x))
    (not_yet g.met.C.Ord.total g.met.C.PublicKey.exact keys i x c.loop-peer-test.true c.peer-item.is c.requires.sorted) in
    record {
      records = λ q.
          one_changed g.met.C.Ord.total g.met.C.PublicKey.exact keys i x c.loop-peer-test.true c.peer-item.is c.requires.sorted
          (one_set_less c.args.role) q (record_at cmp c.leave_one-ends.new.self q)
          (record_at cmp c.loop-peer.self q) (record_at cmp c.args.self.now q)
          (c.leave_one-ends.ensures.records q) (c.loop-peer.invariant.records q);
      torn =
          added test c.leave_one-ends.result x keys c.args.torn.now.items c.loop-peer.torn.items c.push_if.new.list.items i c.loop-peer-test.true c.peer-item.is
          (c.leave_one-ends.ensures.torn ∙ ap (λ o. option_map_or (is_torn_down_without c.args.role) o false)
          before) c.loop-peer.invariant.torn c.push_if.ensures.items;
      capacity = c.push_if.ensures.capacity ∙ c.loop-peer.invariant.capacity;
      length = omega (arith, c.push_if.ensures.length, c.loop-peer.invariant.length);
    }
