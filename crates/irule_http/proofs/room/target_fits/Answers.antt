use Rattle.std.proofs.Common.{◌≡◌, ◌≤◌, length, rules, subst}
use Rattle.irule_http.specs.Heads.{target_with}
use Rattle.irule_http.proofs.Lengths.{request_room}
use Rattle.irule_http.proofs.room.target_fits.Goals as goal

pub returns : goal.returns
returns c =
    let few = subst (λ fs. length fs ≤ 100) c.as_slice.ensures.value c.as_slice.ensures.are_fields.few in
    subst (λ b. c.fits_beside.result ≡ b) (request_room (target_with c.args.target.now c.args.head.now) few) (search rules)
