-- Selection and the connect, by the fields of a trace's state.
use Rattle.std.proofs.Common.{◌≡◌, refl, ap, ◌∙◌, ℕ, List, [], ◌∷◌, true, false, Option, Some, None}
use Rattle.px_bytes.specs.declared.addr.Addr.{Addr}
use Rattle.px_bytes.specs.declared.fault.Reply.{Reply}
use Rattle.px_bytes.specs.declared.fault.Reply.TheVariants as reply
use Rattle.event_order.specs.declared.event.EventName.TheVariants.{LbSelected, LbFailed, ServerConnected}
use Rattle.irule_net.specs.Steps.{target_pool}
use Rattle.irule_net.specs.declared.state.Selected.{Selected}
use Rattle.irule_net.specs.declared.state.Target.{Target}
use Rattle.irule_net.specs.declared.state.Target.TheVariants.{Default, PoolOf, MemberOf, NodeAt}
use Rattle.conn_trace.specs.Gates.{sent_after}
use Rattle.conn_trace.specs.Host.{HostState, with_selected}
use Rattle.conn_trace.specs.Item.{Answered, Called, Connected, Resumed}
use Rattle.conn_trace.specs.Places.{Place, at as put, enter}
use Rattle.conn_trace.specs.Selected.{addr_of, any_member, only_member, select_call}
use Rattle.conn_trace.specs.Setup.{Setup}
use Rattle.conn_trace.specs.State.{Answering, Choosing, Connecting, Phase, Selecting, Absent, Up, Link, link_of, NoServer, Sought, There, Stream, TraceState, Next, Does, Waits, ForConnect, ForReply, with_replies, with_connects}
use Rattle.conn_trace.specs.Trace.{answering_next, choosing_next, counted, default_next, next_item, phase_next, selected_next, selecting_next, serving}
use Rattle.conn_trace.proofs.Longer.{plain_next}
use Rattle.conn.specs.Stages.{selects}

-- it stands in this phase, with this host and this link, and no cut is recorded
pub record StandsIn (p : Phase) (h : HostState) (k : Link) (l : TraceState) : Type 0 where
  pub phase : l.phase ≡ p
  pub host : l.host ≡ h
  pub link : link_of l.server ≡ k
  pub no_cut : l.answers.cut ≡ None

-- what comes next, by the phase
pub next_in : (g : Setup) (p : Phase) (h : HostState) (k : Link) (l : TraceState) → StandsIn p h k l → next_item g l ≡ counted l.sent (phase_next g p l)
next_in g p h k l s = plain_next g l s.no_cut ∙ ap (λ x. counted l.sent (phase_next g x l)) s.phase

-- where it goes with this server selected, or with none
abbrev pub picked : Setup → Link → HostState → Option Selected → Place
picked g k h None = enter g LbFailed k h
picked g k h (Some selected) = enter g LbSelected k (with_selected (Some selected) h)

abbrev pub node : Addr → Selected
node a = record { pool = []; addr = a }

-- the server that a reply names, of the pool that the rules chose
abbrev pub selected_by : HostState → Option Addr → Option Selected
selected_by h None = None
selected_by h (Some a) = Some (record { pool = target_pool h.net.pool h.net.target; addr = a })

-- it asks which member of a pool will do
abbrev pub asking : Setup → TraceState → HostState → (pool : List ℕ) → (wanted : List (List ℕ)) → Next
asking g l h pool wanted =
    let call = select_call g pool wanted in
    Does (Called call) (record l { phase = Selecting call; host = with_selected None h })

-- what the choice of the rules leads to, and the virtual server's pool
abbrev pub default_leads : Setup → Link → TraceState → HostState → (pool : List ℕ) → Next
default_leads g k l h [] = Does Resumed (put (picked g k (with_selected None h) None) l)
default_leads g k l h (b ∷ bs) = asking g l h (b ∷ bs) any_member

abbrev pub target_leads : Setup → Link → TraceState → HostState → Target → Next
target_leads g k l h Default = default_leads g k l h h.net.pool
target_leads g k l h (PoolOf pool) = asking g l h pool any_member
target_leads g k l h (MemberOf pool a) = asking g l h pool (only_member a)
target_leads g k l h (NodeAt a) = Does Resumed (put (picked g k (with_selected None h) (Some (node a))) l)

module _ (g : Setup) (k : Link) (h : HostState) (l : TraceState) where
  -- a server is selected by what the rules chose last
  pub choosing_item : StandsIn Choosing h k l → next_item g l ≡ target_leads g k l h h.net.target
  choosing_item s =
      next_in g Choosing h k l s
      ∙ ap (λ x. counted l.sent (choosing_next g l (with_selected None x) x.net.target)) s.host
      ∙ by_target h.net.target
    where
      with_link : (p : Link → Place) → Does Resumed (put (p (link_of l.server)) l) ≡ Does Resumed (put (p k) l)
      with_link p = ap (λ x. Does Resumed (put (p x) l)) s.link

      by_pool : (pool : List ℕ) → counted l.sent (default_next g l (with_selected None h) pool) ≡ default_leads g k l h pool
      by_pool [] = with_link (λ x. picked g x (with_selected None h) None)
      by_pool (b ∷ bs) = refl

      by_target : (target : Target) → counted l.sent (choosing_next g l (with_selected None h) target) ≡ target_leads g k l h target
      by_target Default = by_pool h.net.pool
      by_target (PoolOf pool) = refl
      by_target (MemberOf pool a) = refl
      by_target (NodeAt a) = with_link (λ x. picked g x (with_selected None h) (Some (node a)))

  -- the reply to its call selects a server, or none
  pub selecting_item : (call : List (List ℕ)) (r : Reply) → StandsIn (Selecting call) h k l → l.answers.replies ≡ r ∷ []
      → next_item g l ≡ Does Resumed (put (picked g k h (selected_by h (selects r))) (with_replies [] l))
  selecting_item call r s came =
      next_in g (Selecting call) h k l s
      ∙ ap (λ rs. counted l.sent (selecting_next g call l rs)) came
      ∙ by_reply r
    where
      by_addr : (a : Option Addr) → counted l.sent (selected_next g l [] a) ≡ Does Resumed (put (picked g k h (selected_by h a)) (with_replies [] l))
      by_addr None =
          ap (λ x. Does Resumed (put (enter g LbFailed x l.host) (with_replies [] l))) s.link
          ∙ ap (λ x. Does Resumed (put (enter g LbFailed k x) (with_replies [] l))) s.host
      by_addr (Some a) =
          ap (λ x. Does Resumed (put (picked g x l.host (selected_by l.host (Some a))) (with_replies [] l))) s.link
          ∙ ap (λ x. Does Resumed (put (picked g k x (selected_by x (Some a))) (with_replies [] l))) s.host

      by_reply : (r : Reply) → counted l.sent (selecting_next g call l (r ∷ [])) ≡ Does Resumed (put (picked g k h (selected_by h (selects r))) (with_replies [] l))
      by_reply (reply.Ok v) = by_addr (addr_of v)
      by_reply (reply.Fault f) = by_addr None

  -- or no reply came yet
  pub unreplied : (call : List (List ℕ)) → StandsIn (Selecting call) h k l → l.answers.replies ≡ [] → next_item g l ≡ Waits (ForReply call)
  unreplied call s none = next_in g (Selecting call) h k l s ∙ ap (λ rs. counted l.sent (selecting_next g call l rs)) none

  -- it is asked for a connection
  pub connecting_item : (a : Addr) → StandsIn (Connecting a) h k l → next_item g l ≡ Does (Connected a) (record l { phase = Answering a; server = Sought })
  connecting_item a s = next_in g (Connecting a) h k l s

  -- the connection was made
  pub made_item : (a : Addr) (s' : Stream) → StandsIn (Answering a) h k l → l.answers.connects ≡ Some s' ∷ []
      → next_item g l ≡ Does (Answered true) (record (put (enter g ServerConnected Up (serving h)) (with_connects [] (record l { server = There s' }))) { sent = sent_after (Answered true) l.sent })
  made_item a s' s came =
      next_in g (Answering a) h k l s
      ∙ ap (λ cs. counted l.sent (answering_next g l cs)) came
      ∙ ap (λ x. Does (Answered true) (record (put (enter g ServerConnected Up (serving x)) (with_connects [] (record l { server = There s' }))) { sent = sent_after (Answered true) l.sent })) s.host

  -- or refused
  pub refused_item : (a : Addr) → StandsIn (Answering a) h k l → l.answers.connects ≡ None ∷ []
      → next_item g l ≡ Does (Answered false) (put (enter g LbFailed Absent h) (with_connects [] (record l { server = NoServer })))
  refused_item a s came =
      next_in g (Answering a) h k l s
      ∙ ap (λ cs. counted l.sent (answering_next g l cs)) came
      ∙ ap (λ x. Does (Answered false) (put (enter g LbFailed Absent x) (with_connects [] (record l { server = NoServer })))) s.host

  -- or no answer came yet
  pub unanswered : (a : Addr) → StandsIn (Answering a) h k l → l.answers.connects ≡ [] → next_item g l ≡ Waits ForConnect
  unanswered a s none = next_in g (Answering a) h k l s ∙ ap (λ cs. counted l.sent (answering_next g l cs)) none
