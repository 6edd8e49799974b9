use Rattle.std.proofs.Common.{◌≡◌, ◌∙◌, ap, sym, subst, option_map}
use Rattle.std.specs.Duration.{as_nanos}
use Rattle.p2p_tracker.specs.Lists.{IsLeastOf}
use Rattle.p2p_tracker.specs.Seen.{DirectoryView, unblock_of}
use Rattle.p2p_driver.specs.Drivers.{seen}
use Rattle.p2p_driver.specs.Timers.{dial_due, earlier, held_moment, IsNextTimeout}
use Rattle.p2p_driver.proofs.driver.Driver.next_timeout.Goals as goal

pub returns : goal.returns
returns g c =
    let d = c.self.inside in
    let stream = c.next_late-stream.result in
    let link = c.next_due-link.result in
    let block = option_map as_nanos c.next_unblock-block.result in
    let kept = c.next_cooled-kept.result in
    let v = seen d.node d.pace d.greeting (as_nanos d.cooldown) d.next_dial (as_nanos d.latest) d.next d.arrivals d.answers d.reads d.links d.actions.items in
    let due = c.moment.ensures ∙ ap held_moment (c.dial_due.ensures ∙ ap dial_due (sym c.self.view_is)) in
    let first : option_map as_nanos c.earlier.result ≡ earlier (held_moment (dial_due v)) (held_moment kept) =
    (c.earlier.ensures ∙ λ i. earlier (due i) (c.moment-2.ensures i)) in
    let late : option_map as_nanos c.earlier-2.result ≡ earlier (held_moment stream) (held_moment link) =
    (c.earlier-2.ensures ∙ λ i. earlier (c.moment-3.ensures i) (c.moment-4.ensures i)) in
    let rest : option_map as_nanos c.earlier-4.result ≡ earlier (earlier (held_moment stream) (held_moment link)) (earlier block (option_map as_nanos c.next_cooled-cooldown.result)) =
    (c.earlier-4.ensures ∙ λ i. earlier (late i) (c.earlier-3.ensures i)) in
    subst (λ v. IsNextTimeout g.C.Ord.cmp v (option_map as_nanos c.earlier-5.result)) c.self.view_is (record {
      stream = stream;
      link = link;
      kept = kept;
      block = block;
      cooldown = option_map as_nanos c.next_cooled-cooldown.result;
      streams = c.next_late-stream.ensures;
      links = c.next_due-link.ensures;
      grants = c.next_cooled-kept.ensures;
      blocks = subst (λ (d : DirectoryView g.row.C.Denot g.row.C-Signature.Denot). IsLeastOf (unblock_of g.C.Ord.cmp d) block)
          c.directory.ensures c.next_unblock-block.ensures;
      cooldowns = c.next_cooled-cooldown.ensures;
      next_is = c.earlier-5.ensures ∙ λ i. earlier (first i) (rest i);
    })
