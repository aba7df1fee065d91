-- Where a connection stands, and what is not taken of what it sent.
use Rattle.std.proofs.Common.{◌≡◌, refl, sym, ap, subst, ◌∙◌, ℕ, ◌+◌, ◌-◌, ◌++◌, List, length, Bool, true, false, arith}
use Rattle.std.specs.Prelude.{is_some}
use Rattle.std.specs.Bool.{MatchBool}
use Rattle.conn_trace.specs.Costs.{SlicesPaid}
use Rattle.conn_trace.specs.Further.{Further, longer}
use Rattle.conn_trace.specs.Gates.{no_bytes, sent_from}
use Rattle.conn_trace.specs.Heard.{Heard, taken, start_of}
use Rattle.conn_trace.specs.Item.{Item}
use Rattle.conn_trace.specs.Setup.{Setup}
use Rattle.conn_trace.specs.State.{TraceState}
use Rattle.conn_trace.specs.Trace.{Unfolds, behind}
use Rattle.conn_trace.proofs.Costs.{paid_joins}
use Rattle.conn_trace.proofs.Given.{unfolds_behind, sent_counted}
use Rattle.conn_trace.proofs.PaidOn.{items_pay, there_longer}
use Rattle.proxy_core.specs.Moves.{is_drained_at}
use Rattle.conn.specs.Settling.{is_drained}
use Rattle.proxy_core.specs.Scheduler.{Seen}
use Rattle.record_model.specs.Setup.{setup_of, stand_of}
use Rattle.proxy_core.specs.Sound.{unseen, ServedAt, Served, SoundAt}
use Rattle.run_config.specs.declared.config.Config.{Config}

pub stands_at : (C : Config) (h : Heard) (g : Setup) (place : List Item) (at : TraceState) → setup_of C h ≡ g → Unfolds g (start_of g h) place at → stand_of C h place ≡ at
stands_at C h g place at e u = ap (λ y. behind (length place) y (start_of y h)) e ∙ unfolds_behind g (start_of g h) at place u

pub served_at : (C : Config) (c : ℕ) (z : Seen) (g : Setup) (at : TraceState) → setup_of C z.heard ≡ g → ServedAt g c z at → Served C c z
served_at C c z g at e k =
    let P : Setup → Type 0 = λ y. ServedAt y c z at in
    let Q : TraceState → Type 0 = λ y. ServedAt (setup_of C z.heard) c z y in
    subst Q (sym (stands_at C z.heard g z.place at e k.stands)) (subst P (sym e) k)

pub drained_at : (C : Config) (h : Heard) (g : Setup) (place : List Item) (at : TraceState) → setup_of C h ≡ g → Unfolds g (start_of g h) place at → is_drained_at C h place ≡ is_drained g (taken h) at
drained_at C h g place at e u = ap (λ y. is_drained y (taken h) (stand_of C h place)) e ∙ ap (λ l. is_drained g (taken h) l) (stands_at C h g place at e u)

-- by whether it was accepted
pub is_served : (C : Config) (c : ℕ) (z : Seen) → (z ≡ unseen → ⊥) → SoundAt C c z → (is_some z.heard.accepted ≡ true) × Served C c z
is_served C c z other s = by_accepted (is_some z.heard.accepted) refl s
  where
    by_accepted : (b : Bool) → is_some z.heard.accepted ≡ b → MatchBool b (Served C c z) (z ≡ unseen) → (is_some z.heard.accepted ≡ true) × Served C c z
    by_accepted true e k = (e, k)
    by_accepted false e k = absurd (other k)

pub from_served : (C : Config) (c : ℕ) (z : Seen) → is_some z.heard.accepted ≡ true → Served C c z → SoundAt C c z
from_served C c z e k = let P : Bool → Type 0 = λ b. MatchBool b (Served C c z) (z ≡ unseen) in subst P (sym e) k

pub as_served : (C : Config) (c : ℕ) (z : Seen) → is_some z.heard.accepted ≡ true → SoundAt C c z → Served C c z
as_served C c z e k = let P : Bool → Type 0 = λ b. MatchBool b (Served C c z) (z ≡ unseen) in subst P e k

pub is_unseen : (C : Config) (c : ℕ) (z : Seen) → is_some z.heard.accepted ≡ false → SoundAt C c z → z ≡ unseen
is_unseen C c z e k = let P : Bool → Type 0 = λ b. MatchBool b (Served C c z) (z ≡ unseen) in subst P e k

pub as_live : (C : Config) (c : ℕ) (z : Seen) → z.live ≡ true → SoundAt C c z → Served C c z
as_live C c z e s = (is_served C c z (λ u. let n : z.live ≡ false = ap (λ y. y.live) u in let m : true ≡ false = sym e ∙ n in cc) s).1

-- what was sent is in the state
pub sent_at : (g : Setup) (h : Heard) (place : List Item) (at : TraceState) → Unfolds g (start_of g h) place at → at.sent ≡ sent_from no_bytes place
sent_at g h place at u = sent_counted g (start_of g h) at place u

-- what pays for its slices grows with its input, and along its items
pub longer_pays : (g : Setup) (place : List Item) (l : TraceState) (f : Further) (n : ℕ) → SlicesPaid g place l n → SlicesPaid g place (longer f l) n
longer_pays g place l f n k = let t = there_longer g l f in omega (arith, k, t)

pub more_pays : (g : Setup) (place more : List Item) (l at : TraceState) (f : Further) (n : ℕ) → SlicesPaid g place l n → Unfolds g (longer f l) more at → SlicesPaid g (place ++ more) at n
more_pays g place more l at f n k u =
    let t = there_longer g l f in
    let i = items_pay g (longer f l) at more u in
    let j = paid_joins place more in omega (arith, k, t, i, j)

-- of one that was sent so much, so much is left
pub rest_left : (n t sent : ℕ) → n + t ≡ sent → n ≡ sent - t
rest_left n t sent e = omega (arith, e)
