use Rattle.std.proofs.Common.{◌≡◌, drop}
use Rattle.proxy_core.specs.InitPlaces.{places_ran}
use Rattle.proxy_core.proofs.init.run_places.Given as goal

abbrev pub invariant-loop-place : goal.invariant-loop-place
invariant-loop-place l = places_ran l.config (drop l.place-index l.places) l.left ≡ places_ran l.config l.places l.initial.left
