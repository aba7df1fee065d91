use Rattle.std.proofs.Common.{◌≡◌, ◌≤◌, length, rules, subst}
use Rattle.irule_http.specs.Heads.{response_with}
use Rattle.irule_http.proofs.Lengths.{response_room}
use Rattle.irule_http.proofs.room.response_holds.Goals as goal

pub returns : goal.returns
returns c =
    let few = subst (λ fs. length fs ≤ 100) c.as_slice.ensures.value c.as_slice.ensures.are_fields.few in
    subst (λ b. c.fits_beside.result ≡ b) (response_room (response_with c.args.fields.now c.args.head.now) few) (search rules)
