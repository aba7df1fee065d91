-- What all server connections were sent and never took, by number.
use Rattle.std.proofs.Common.{◌≡◌, refl, ap, ℕ, zero, suc, ◌+◌, ◌≤◌, List, [], ◌∷◌, length, false, Option, Some, None, arith}
use Rattle.conn_trace.specs.Heard.{SideHeard, has_made, servers_taken}
use Rattle.conn_trace.specs.Item.{Item, server_output}
use Rattle.proxy_core.specs.Scheduler.{servers_left}
use Rattle.proxy_core.specs.Servers.{made, took_behind}

pub made_taken : (cs : List (Option SideHeard)) → length (servers_taken cs) ≡ made cs
made_taken [] = refl
made_taken (None ∷ more) = made_taken more
made_taken (Some s ∷ more) = ap suc (made_taken more)

pub has_none : (cs : List (Option SideHeard)) → made cs ≡ 0 → has_made cs ≡ false
has_none [] e = refl
has_none (None ∷ more) e = has_none more e
has_none (Some s ∷ more) e = absurd (omega (arith, e))

-- nothing is left of none, of no items, and where nothing was sent to them
pub nothing_left : (j : ℕ) (cs : List (Option SideHeard)) (place : List Item) → made cs ≡ 0 → servers_left j cs place ≡ 0
nothing_left j [] place e = refl
nothing_left j (None ∷ more) place e = nothing_left j more place e
nothing_left j (Some s ∷ more) place e = absurd (omega (arith, e))

pub silent_left : (j : ℕ) (cs : List (Option SideHeard)) (place : List Item) → ((n : ℕ) → j ≤ n → length (server_output n place) ≡ 0) → servers_left j cs place ≡ 0
silent_left j [] place none = refl
silent_left j (None ∷ more) place none = silent_left j more place none
silent_left j (Some s ∷ more) place none =
    let here = none j (omega arith) in
    let rest = silent_left (suc j) more place (λ n le. none n (omega (arith, le))) in omega (arith, here, rest)

-- where nothing is left each took all that was sent to it
pub left_none : (j : ℕ) (cs : List (Option SideHeard)) (place : List Item) → servers_left j cs place ≡ 0 → (n k : ℕ) → n ≡ j + k → suc k ≤ made cs → length (server_output n place) ≤ took_behind k cs
left_none j [] place e n k is within = absurd (omega (arith, within))
left_none j (None ∷ more) place e n k is within = left_none j more place e n k is within
left_none j (Some s ∷ more) place e n zero is within =
    let same : n ≡ j = omega (arith, is) in
    let out : length (server_output n place) ≡ length (server_output j place) = ap (λ m. length (server_output m place)) same in
    omega (arith, e, out)
left_none j (Some s ∷ more) place e n (suc k) is within = left_none (suc j) more place (omega (arith, e)) n k (omega (arith, is)) (omega (arith, within))
