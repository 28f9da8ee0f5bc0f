use Rattle.std.proofs.Common.{◌≡◌, inl, refl, sym, ap, ◌∙◌}
use Rattle.std.specs.Ordering.{nat_cmp}
use Rattle.std.specs.FinMap.{put}
use Rattle.conn_rows.proofs.IdEntries.{put_again}
use Rattle.world_core.proofs.DoLemmas.{same_kept, of_is_err}
use Rattle.world_core.proofs.world.World.send.Goals as goal

pub returns-then-is_err : goal.returns-then-is_err
returns-then-is_err c =
    let same : c.queue.new.self ≡ c.in-Some.guest.now = of_is_err c.queue.result c.is_err.result (c.queue.new.self ≡ c.in-Some.guest.now) c.is_err.ensures.value c.if-is_err.true c.queue.ensures.err in
    let again : put nat_cmp c.from.result c.queue.new.self c.self.inside.seats.guests.entries ≡ c.self.inside.seats.guests.entries =
    ap (λ g. put nat_cmp c.from.result g c.self.inside.seats.guests.entries) same
    ∙ put_again c.from.result c.in-Some.guest.now c.self.inside.seats.guests.entries c.in-Some.ensures.rising (sym c.in-Some.ensures.value) in
    inl (record { none = refl; takes = tt; same = same_kept _ _ refl refl again refl refl ∙ c.self.view_is })
