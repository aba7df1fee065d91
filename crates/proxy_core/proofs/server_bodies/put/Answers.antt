use Rattle.std.proofs.Common.{◌≡◌, sym, ap, ◌∙◌, Some, None}
use Rattle.std.specs.List.{position_from}
use Rattle.std.specs.Prelude.{nat_le}
use Rattle.proxy_core.proofs.Ordering.{put_found, put_none}
use Rattle.proxy_core.proofs.server_bodies.put.Goals as goal

pub returns-in_default : goal.returns-in_default
returns-in_default c =
    let p = c.args.place in
    let ps = c.args.sorted.now.items in
    let none : position_from (λ q. nat_le p.priority q.priority) 0 ps ≡ None =
    ap (λ xs. position_from (λ q. nat_le p.priority q.priority) 0 xs) (sym c.deref.ensures.value) ∙ sym c.place_before.ensures.place ∙ c.in_default.is in
    c.in_ok-push.ensures.items ∙ put_none p ps none

pub returns : goal.returns
returns c =
    let p = c.args.place in
    let ps = c.args.sorted.now.items in
    let found : position_from (λ q. nat_le p.priority q.priority) 0 ps ≡ Some c.in-Some.at =
    ap (λ xs. position_from (λ q. nat_le p.priority q.priority) 0 xs) (sym c.deref.ensures.value) ∙ sym c.in-Some.ensures.place in
    c.in_ok-insert.ensures.items ∙ put_found p ps c.in-Some.at found
