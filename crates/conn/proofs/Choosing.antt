-- A server is selected.
use Rattle.std.proofs.Common.{◌≡◌, refl, sym, ap, subst, ◌∙◌, ℕ, List, [], ◌∷◌, true, false, not, Option, Some, None, codes}
use Rattle.std.specs.Option.{is_some}
use Rattle.px_bytes.specs.Address.{ip_text}
use Rattle.px_bytes.specs.declared.addr.Addr.{Addr}
use Rattle.irule_net.specs.declared.state.Target.{Target}
use Rattle.irule_net.specs.declared.state.Target.TheVariants.{Default, PoolOf, MemberOf, NodeAt}
use Rattle.conn_trace.specs.Host.{HostState}
use Rattle.conn_trace.specs.Item.{Called, Resumed}
use Rattle.conn_trace.specs.Places.{at as put, enter}
use Rattle.conn_trace.specs.Selected.{any_member, select_call}
use Rattle.conn_trace.specs.Setup.{Setup}
use Rattle.conn_trace.specs.State.{Choosing, ForReply, Selecting, TraceState, Does, Waits, with_replies}
use Rattle.conn_trace.specs.Trace.{next_item}
use Rattle.conn.specs.Changes.{Enters}
use Rattle.conn.specs.Choosing.{AsksFor, Chooses, ChoosesBy, TakesChosen, asked_call, default_plan, plan_by, wanted_of}
use Rattle.conn.specs.Ends.{is_sought, is_up, link_by}
use Rattle.conn.specs.Events.{event_of, is_closing}
use Rattle.conn.specs.Holds.{Around, Between, Holds, Stands, call_by, call_of}
use Rattle.conn.specs.Hosts.{seen_host, selected_host}
use Rattle.conn.specs.Setups.{Serves}
use Rattle.conn.specs.Stages.{InEvent as HostIn, at_fits, fits, has_finished}
use Rattle.conn.specs.declared.connection.Conn.{Conn}
use Rattle.conn.specs.declared.events.At.{At}
use Rattle.conn.specs.declared.events.At.TheVariants as event
use Rattle.conn.specs.declared.host.RuleHost.{RuleHost}
use Rattle.conn.specs.declared.setup.Setup as code_setup
use Rattle.conn.specs.declared.stage.Stage.TheVariants as stage
use Rattle.conn.specs.declared.turn.Act as step_act
use Rattle.conn.specs.declared.turn.Act.TheVariants as done
use Rattle.conn.proofs.Acting.{ActGave, SameBeside, gone_holds}
use Rattle.conn.proofs.Gating.{stands_in}
use Rattle.conn.proofs.Giving.{ends_kept, gave_one, same_queue}
use Rattle.conn.proofs.Places.{enters_gone, link_is, Known, known, known_same, told_of}
use Rattle.conn.proofs.SelectItems.{asking, choosing_item, node, picked, selected_by, selecting_item, default_leads, target_leads, unreplied}

module _ (s : code_setup.Setup) (g : Setup) (serves : Serves s g) (a : Around) (l : TraceState) (c : ℕ) (old new : Conn) (h : Holds g a l old) where
  -- an event is entered behind a reply or a choice, while there is no server connection
  entered : (at : At) (host : RuleHost) (l' : TraceState) → Enters s at host old.ends old new → l'.vars ≡ old.vars → l'.answers.replies ≡ [] → Known g host → at_fits at old.ends.link ≡ true → is_closing at ≡ false → (at ≡ event.ServerClosed → ⊥)
      → SameBeside l l' → l'.sent ≡ l.sent → l.finished ≡ false → next_item g l ≡ Does Resumed (put (enter g (event_of at) (link_by old.ends.link) (seen_host host)) l') → ActGave g a l c old new [] done.Goes
  entered at host l' k vars replies known fit open_yet plain same sent going step =
      let p = enter g (event_of at) (link_by old.ends.link) (seen_host host) in
      let gone = enters_gone g l' s serves at host old.ends old new k vars replies known fit open_yet plain in
      record {
        at = put p l';
        gave = gave_one g a l (put p l') c old new Resumed h.no_cut (record { calls = refl; client = refl; to_none = refl; opens = λ c s t. refl; takes = (refl, λ t. refl) }) step refl
            (gone_holds g a false p l' old.ends new gone (same.finished ∙ going) (ends_kept a l (put p l') old.ends old.ends h.ends same.client same.server same.connects sent refl) (same.choices ∙ h.no_choice) (same.cut ∙ h.no_cut))
            (ap (λ e. e.client.queued) gone.ends) (same_queue gone.ends) (ap (λ e. e.edges) gone.ends) (λ f. same.finished ∙ f);
        stops = gone.awake;
      }

  -- the shared call that selects a member of a pool
  call_is : (pool : List ℕ) (wanted : List (List ℕ)) → select_call g pool wanted ≡ asked_call s old.host.net.from pool wanted
  call_is pool wanted =
      ap (λ n. codes "select" ∷ n ∷ pool ∷ ip_text g.from.ip ∷ wanted) serves.name
      ∙ ap (λ f. codes "select" ∷ s.name.now ∷ pool ∷ ip_text f.ip ∷ wanted) (sym h.told.from)

  -- it asks which member of a pool will do
  asks : (pool : List ℕ) (only : Option Addr) (did : step_act.Act) → Between l old → l.finished ≡ false → not (is_sought old.ends.link) ≡ true → AsksFor s pool only old new did → call_of g old.host.net ≡ select_call g pool (wanted_of only)
      → next_item g l ≡ asking g l (seen_host old.host) pool (wanted_of only) → ActGave g a l c old new [] did
  asks pool only did b going fit k is step =
      let call = select_call g pool (wanted_of only) in
      let hs = seen_host (selected_host None old.host) in
      let at : TraceState = record l { phase = Selecting call; host = hs } in
      let stands : Stands g stage.Selecting at new =
      (ap Selecting (sym is) ∙ ap (λ x. Selecting (call_of g x.net)) (sym k.host), record { vars = b.vars ∙ sym k.vars; host = ap seen_host (sym k.host); replies = b.replies }) in
      let waits : next_item g at ≡ Waits (ForReply call) = unreplied g (link_by old.ends.link) hs at call (record { phase = refl; host = refl; link = link_is a l old.ends h.ends; no_cut = h.no_cut }) b.replies in
      subst (λ d. ActGave g a l c old new [] d) (sym (k.asks ∙ ap done.Asks (sym (call_is pool (wanted_of only))))) (record {
        at = at;
        gave = gave_one g a l at c old new (Called call) h.no_cut (record { calls = refl; client = refl; to_none = refl; opens = λ c s t. refl; takes = (refl, λ t. refl) }) step refl
            (record {
              stage = subst (λ x. Stands g x at new) (sym k.there) stands;
              finished = going ∙ ap has_finished (sym k.there);
              fits = ap (λ x. fits x new.ends.link) k.there ∙ ap (λ e. not (is_sought e.link)) k.ends ∙ fit;
              event = subst (λ x. HostIn x new.host.event) (sym k.there) tt;
              told = told_of g new.ends.link new.host (known_same g old.host new.host (ap (λ x. x.net.from) k.host) (ap (λ x. is_some x.http) k.host) (known g old.ends.link old.host h.told)) (λ r. ap (λ e. is_up e.link) k.ends ∙ h.told.relays (ap (λ x. x.net.relays) (sym k.host) ∙ r));
              ends = ends_kept a l at old.ends new.ends h.ends refl refl refl refl k.ends;
              no_choice = h.no_choice;
              no_cut = h.no_cut;
            })
            (ap (λ e. e.client.queued) k.ends) (same_queue k.ends) (ap (λ e. e.edges) k.ends) (λ f. f);
        stops = waits;
      })

  -- by what the rules chose last
  pub chooses : (did : step_act.Act) → old.stage ≡ stage.Choosing → Stands g stage.Choosing l old → Chooses s old new did → ActGave g a l c old new [] did
  chooses did is st k = by_target old.host.net.target refl k
    where
      b : Between l old
      b = st.1

      hs : HostState
      hs = seen_host old.host

      fit : not (is_sought old.ends.link) ≡ true
      fit = sym (ap (λ x. fits x old.ends.link) is) ∙ h.fits

      going : l.finished ≡ false
      going = h.finished ∙ ap has_finished is

      leads : (t : Target) → old.host.net.target ≡ t → next_item g l ≡ target_leads g (link_by old.ends.link) l (seen_host old.host) t
      leads t e = choosing_item g (link_by old.ends.link) (seen_host old.host) l (stands_in s g serves a l c old new h Choosing st.0 b) ∙ ap (target_leads g (link_by old.ends.link) l (seen_host old.host)) e

      same : SameBeside l l
      same = record { finished = refl; client = refl; server = refl; connects = refl; choices = refl; cut = refl }

      by_pool : (pool : List ℕ) → old.host.net.pool ≡ pool → old.host.net.target ≡ Default → ChoosesBy (default_plan pool) s old new did → ActGave g a l c old new [] did
      by_pool [] p e (goes, k) =
          subst (λ d. ActGave g a l c old new [] d) (sym goes)
          (entered event.Failed (selected_host None old.host) l k b.vars b.replies (record { from = h.told.from; spoken = h.told.spoken }) fit refl (λ x. cc) same refl going (leads Default e ∙ ap (default_leads g (link_by old.ends.link) l (seen_host old.host)) p))
      by_pool (x ∷ xs) p e k =
          asks (x ∷ xs) None did b going fit k (ap (call_by g old.host.net.pool) e ∙ ap (λ y. select_call g y any_member) p) (leads Default e ∙ ap (default_leads g (link_by old.ends.link) l (seen_host old.host)) p)

      by_target : (t : Target) → old.host.net.target ≡ t → ChoosesBy (plan_by t old.host.net.pool) s old new did → ActGave g a l c old new [] did
      by_target Default e k = by_pool old.host.net.pool refl e k
      by_target (PoolOf name) e k = asks name None did b going fit k (ap (call_by g old.host.net.pool) e) (leads (PoolOf name) e)
      by_target (MemberOf name addr) e k = asks name (Some addr) did b going fit k (ap (call_by g old.host.net.pool) e) (leads (MemberOf name addr) e)
      by_target (NodeAt addr) e (goes, k) =
          subst (λ d. ActGave g a l c old new [] d) (sym goes)
          (entered event.Selected (selected_host (Some (node addr)) old.host) l k b.vars b.replies (record { from = h.told.from; spoken = h.told.spoken }) fit refl (λ x. cc) same refl going (leads (NodeAt addr) e))

  -- by the reply that came
  pub chosen : (addr : Option Addr) → old.stage ≡ stage.Chosen addr → Stands g (stage.Chosen addr) l old → TakesChosen s addr old new → ActGave g a l c old new [] done.Goes
  chosen addr is (phase, r) k = by_addr addr refl k
    where
      fit : not (is_sought old.ends.link) ≡ true
      fit = sym (ap (λ x. fits x old.ends.link) is) ∙ h.fits

      going : l.finished ≡ false
      going = h.finished ∙ ap has_finished is

      same : SameBeside l (with_replies [] l)
      same = record { finished = refl; client = refl; server = refl; connects = refl; choices = refl; cut = refl }

      step : next_item g l ≡ Does Resumed (put (picked g (link_by old.ends.link) (seen_host old.host) (selected_by (seen_host old.host) addr)) (with_replies [] l))
      step =
          selecting_item g (link_by old.ends.link) (seen_host old.host) l (call_of g old.host.net) r.reply (record { phase = phase; host = r.host; link = link_is a l old.ends h.ends; no_cut = h.no_cut }) r.replies
          ∙ ap (λ x. Does Resumed (put (picked g (link_by old.ends.link) (seen_host old.host) (selected_by (seen_host old.host) x)) (with_replies [] l))) (sym r.selects)

      leads : (x : Option Addr) → addr ≡ x → next_item g l ≡ Does Resumed (put (picked g (link_by old.ends.link) (seen_host old.host) (selected_by (seen_host old.host) x)) (with_replies [] l))
      leads x e = step ∙ ap (λ y. Does Resumed (put (picked g (link_by old.ends.link) (seen_host old.host) (selected_by (seen_host old.host) y)) (with_replies [] l))) e

      by_addr : (x : Option Addr) → addr ≡ x → TakesChosen s x old new → ActGave g a l c old new [] done.Goes
      by_addr None e k = entered event.Failed old.host (with_replies [] l) k r.vars refl (record { from = h.told.from; spoken = h.told.spoken }) fit refl (λ x. cc) same refl going (leads None e)
      by_addr (Some x) e k =
          let o = selected_by (seen_host old.host) (Some x) in
          entered event.Selected (selected_host o old.host) (with_replies [] l) k r.vars refl (record { from = h.told.from; spoken = h.told.spoken }) fit refl (λ y. cc) same refl going (leads (Some x) e)
