-- Where a connection goes behind a message, by its stage and by the phase of its trace.
use Rattle.std.proofs.Common.{◌≡◌, refl, sym, ℕ, zero, suc, Bool, true, false, true≢false, not, if◌then◌else◌}
use Rattle.px_bytes.specs.declared.addr.Side.{Side}
use Rattle.px_bytes.specs.declared.addr.Side.TheVariants.{Client, Server}
use Rattle.irule_http.specs.Sent.{client_closes}
use Rattle.irule_http.specs.declared.state.Http.{Http}
use Rattle.conn_trace.specs.Host.{HostState, http_of}
use Rattle.conn_trace.specs.Http.{wanted_more}
use Rattle.conn_trace.specs.Item.{Closed}
use Rattle.conn_trace.specs.Messages.{behind_head}
use Rattle.conn_trace.specs.Routing.{behind_asked, behind_message, behind_retired, gathering, is_left, is_spent_link, next_request, routed}
use Rattle.conn_trace.specs.Setup.{Setup}
use Rattle.conn_trace.specs.State as state
use Rattle.conn_trace.specs.State.{TraceState}
use Rattle.conn.specs.Ends.{behind_of, is_settled, is_up, link_by}
use Rattle.conn.specs.Holds.{Between, Stands}
use Rattle.conn.specs.Hosts.{seen_host}
use Rattle.conn.specs.Messages.{reuse_stage}
use Rattle.conn.specs.Stages.{InEvent as HostIn, asked_stage, fits, gathering_stage, has_body, has_finished, headed_stage, http_in, is_asking, message_stage, next_by, next_stage, retired_stage, routed_stage, spent_stage}
use Rattle.conn.specs.declared.connection.Conn.{Conn}
use Rattle.conn.specs.declared.ends.Behind.{Behind}
use Rattle.conn.specs.declared.ends.Behind.TheVariants as behind
use Rattle.conn.specs.declared.ends.Link.{Link}
use Rattle.conn.specs.declared.ends.Link.TheVariants as link
use Rattle.conn.specs.declared.events.At.{At}
use Rattle.conn.specs.declared.host.RuleHost.{RuleHost}
use Rattle.conn.specs.declared.stage.Stage.{Stage}

-- it hasn't finished there, may have this server connection, and asks nothing
pub record Calm (k : Link) (st : Stage) : Type 0 where
  pub finished : has_finished st ≡ false
  pub fit : fits st k ≡ true
  pub awake : is_asking st ≡ false
  pub outside : has_body st ≡ false
  pub event : (e : At) → HostIn st e

pub calm : (k : Link) (st : Stage) → has_finished st ≡ false → fits st k ≡ true → is_asking st ≡ false → has_body st ≡ false → ((e : At) → HostIn st e) → Calm k st
calm k st f t a o e = record { finished = f; fit = t; awake = a; outside = o; event = e }

module _ (g : Setup) (at : TraceState) (new : Conn) (b : Between at new) where
  abbrev Here : Stage → Type 0
  Here st = Stands g st at new

  -- a request goes on
  by_left : (x : Bool) → at.phase ≡ (if x then state.GivingUp state.BeforeSelect else state.AtReuse) → Here (routed_stage true x)
  by_left true p = (p, b)
  by_left false p = (p, b)

  pub routed_stands : (k : Link) (h : HostState) → at.phase ≡ routed (link_by k) h → Here (routed_stage (is_up k) (is_left h))
  routed_stands link.Absent h p = (p, b)
  routed_stands link.GivenUp h p = (p, b)
  routed_stands (link.Leaving w) h p = (p, b)
  routed_stands link.Asked h p = (p, b)
  routed_stands link.Refused h p = (p, b)
  routed_stands link.Made h p = (p, b)
  routed_stands link.Up h p = by_left (is_left h) p

  pub asked_stands : (k : Link) (h : RuleHost) → at.phase ≡ behind_asked (link_by k) (seen_host h) → Here (asked_stage k h)
  asked_stands k h p = by_wanted (wanted_more (http_in h)) p
    where
      by_wanted : (n : ℕ) → at.phase ≡ gathering Client n (seen_host h) (routed (link_by k) (seen_host h)) → Here (gathering_stage Client n (http_in h) (routed_stage (is_up k) (is_left (seen_host h))))
      by_wanted zero p = routed_stands k (seen_host h) p
      by_wanted (suc n) p = (p, b)

  -- the next request is read, or it closes
  pub next_stands : (h : HostState) → at.phase ≡ next_request h → Here (next_stage (http_of h))
  next_stands h p = by_flag (client_closes (http_of h)) p
    where
      by_flag : (x : Bool) → at.phase ≡ (if not x then state.AtHead else state.Finishing Closed) → Here (next_by x)
      by_flag true p = (p, b)
      by_flag false p = (p, b)

  pub message_stands : (side : Side) (h : RuleHost) → at.phase ≡ behind_message side (seen_host h) → Here (message_stage side h)
  message_stands Client h p = (p, b)
  message_stands Server h p = by_spent (is_spent_link (seen_host h)) p
    where
      by_spent : (x : Bool) → at.phase ≡ (if x then state.GivingUp state.BehindMessage else next_request (seen_host h)) → Here (spent_stage x (http_in h))
      by_spent true p = (p, b)
      by_spent false p = next_stands (seen_host h) p

  pub headed_stands : (side : Side) (h : RuleHost) (whole : Bool) → at.phase ≡ behind_head side (seen_host h) whole → Here (headed_stage side h whole)
  headed_stands side h true p = message_stands side h p
  headed_stands side h false p = (p, b)

  pub retired_stands : (w : Behind) (h : RuleHost) → at.phase ≡ behind_retired (behind_of w) (seen_host h) → Here (retired_stage w (http_in h))
  retired_stands behind.BeforeSelect h p = (p, b)
  retired_stands behind.BehindMessage h p = next_stands (seen_host h) p

-- ---- what holds there

routed_calm : (k : Link) (left : Bool) → is_settled k ≡ true → Calm k (routed_stage (is_up k) left)
routed_calm link.Absent left fit = calm _ _ refl refl refl refl (λ e. tt)
routed_calm link.GivenUp left fit = calm _ _ refl refl refl refl (λ e. tt)
routed_calm (link.Leaving w) left fit = calm _ _ refl refl refl refl (λ e. tt)
routed_calm link.Asked left fit = absurd (true≢false (sym fit))
routed_calm link.Refused left fit = absurd (true≢false (sym fit))
routed_calm link.Made left fit = absurd (true≢false (sym fit))
routed_calm link.Up true fit = calm _ _ refl refl refl refl (λ e. tt)
routed_calm link.Up false fit = calm _ _ refl refl refl refl (λ e. tt)

pub asked_calm : (k : Link) (h : RuleHost) → is_settled k ≡ true → Calm k (asked_stage k h)
asked_calm k h fit = by_wanted (wanted_more (http_in h))
  where
    by_wanted : (n : ℕ) → Calm k (gathering_stage Client n (http_in h) (routed_stage (is_up k) (is_left (seen_host h))))
    by_wanted zero = routed_calm k (is_left (seen_host h)) fit
    by_wanted (suc n) = calm _ _ refl fit refl refl (λ e. tt)

pub next_calm : (k : Link) (x : Http) → is_settled k ≡ true → Calm k (next_stage x)
next_calm k x fit = by_flag (client_closes x)
  where
    by_flag : (c : Bool) → Calm k (next_by c)
    by_flag true = calm _ _ refl refl refl refl (λ e. tt)
    by_flag false = calm _ _ refl fit refl refl (λ e. tt)

pub message_calm : (side : Side) (h : RuleHost) → Calm link.Up (message_stage side h)
message_calm Client h = calm _ _ refl refl refl refl (λ e. tt)
message_calm Server h = by_spent (is_spent_link (seen_host h))
  where
    by_spent : (x : Bool) → Calm link.Up (spent_stage x (http_in h))
    by_spent true = calm _ _ refl refl refl refl (λ e. tt)
    by_spent false = next_calm link.Up (http_in h) refl

pub headed_calm : (side : Side) (h : RuleHost) (whole : Bool) → Calm link.Up (headed_stage side h whole)
headed_calm side h true = message_calm side h
headed_calm side h false = calm _ _ refl refl refl refl (λ e. tt)

pub retired_calm : (w : Behind) (x : Http) → Calm link.GivenUp (retired_stage w x)
retired_calm behind.BeforeSelect x = calm _ _ refl refl refl refl (λ e. tt)
retired_calm behind.BehindMessage x = next_calm link.GivenUp x refl

pub reuse_calm : (kept : Bool) → Calm link.Up (reuse_stage kept)
reuse_calm true = calm _ _ refl refl refl refl (λ e. tt)
reuse_calm false = calm _ _ refl refl refl refl (λ e. tt)

-- no body runs there
routed_no_body : (up left : Bool) → has_body (routed_stage up left) ≡ false
routed_no_body false left = refl
routed_no_body true true = refl
routed_no_body true false = refl

pub asked_no_body : (k : Link) (h : RuleHost) → has_body (asked_stage k h) ≡ false
asked_no_body k h = by_wanted (wanted_more (http_in h))
  where
    by_wanted : (n : ℕ) → has_body (gathering_stage Client n (http_in h) (routed_stage (is_up k) (is_left (seen_host h)))) ≡ false
    by_wanted zero = routed_no_body (is_up k) (is_left (seen_host h))
    by_wanted (suc n) = refl

pub next_no_body : (x : Http) → has_body (next_stage x) ≡ false
next_no_body x = (next_calm link.Up x refl).outside

pub message_no_body : (side : Side) (h : RuleHost) → has_body (message_stage side h) ≡ false
message_no_body side h = (message_calm side h).outside

pub headed_no_body : (side : Side) (h : RuleHost) (whole : Bool) → has_body (headed_stage side h whole) ≡ false
headed_no_body side h whole = (headed_calm side h whole).outside

pub retired_no_body : (w : Behind) (x : Http) → has_body (retired_stage w x) ≡ false
retired_no_body w x = (retired_calm w x).outside

pub reuse_no_body : (kept : Bool) → has_body (reuse_stage kept) ≡ false
reuse_no_body kept = (reuse_calm kept).outside
