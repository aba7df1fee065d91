-- Behind every past nothing was sent to a server connection that wasn't heard of, and what one took is within what was sent to it.
use Rattle.std.proofs.Common.{◌≡◌, refl, sym, subst, ℕ, zero, suc, ◌<◌, ◌≤◌, [], length, Bool, true, false, arith}
use Rattle.std.specs.Prelude.{is_some}
use Rattle.conn_trace.specs.Heard.{start_of}
use Rattle.conn_trace.specs.Item.{server_output}
use Rattle.proxy_core.specs.Numbered.{ServersAreNumbered}
use Rattle.record_model.specs.Setup.{setup_of, stand_of}
use Rattle.proxy_core.specs.Scheduler.{Seen, seen}
use Rattle.proxy_core.specs.Servers.{made, took_of}
use Rattle.proxy_core.specs.Sound.{Served, SoundAt, unseen}
use Rattle.run_config.specs.declared.config.Config.{Config}
use Rattle.proxy_core.proofs.ServerLaws.{none_sent}
use Rattle.proxy_core.proofs.ServerLeft.{all_made}
use Rattle.proxy_core.proofs.SoundPast.{leads_sound}
use Rattle.proxy_core.proofs.Standing.{as_served, is_unseen}

-- by what was heard and the items alone
record NumberedBy (z : Seen) : Type 0 where
  unsent : (n : ℕ) → made z.heard.connects < n → server_output n z.place ≡ []
  within : (n : ℕ) → took_of z.heard.connects n ≤ length (server_output n z.place)

unseen_numbered : NumberedBy unseen
unseen_numbered = record { unsent = λ n above. refl; within = none }
  where
    none : (n : ℕ) → took_of [] n ≤ length (server_output n [])
    none zero = omega arith
    none (suc k) = omega arith

served_numbered : (C : Config) (c : ℕ) (z : Seen) → Served C c z → NumberedBy z
served_numbered C c z v =
    let g = setup_of C z.heard in
    let at = stand_of C z.heard z.place in
    record {
      unsent = λ n above. none_sent g (start_of g z.heard) at z.place n v.stands (let all = all_made g z.heard z.place at v.stands in omega (arith, all, above));
      within = v.within.servers;
    }

numbered_by : (C : Config) (c : ℕ) (z : Seen) → SoundAt C c z → NumberedBy z
numbered_by C c z s = by_accepted (is_some z.heard.accepted) refl
  where
    by_accepted : (b : Bool) → is_some z.heard.accepted ≡ b → NumberedBy z
    by_accepted true e = served_numbered C c z (as_served C c z e s)
    by_accepted false e = subst NumberedBy (sym (is_unseen C c z e s)) unseen_numbered

pub servers_are_numbered : ServersAreNumbered
servers_are_numbered C past s leads c =
    let k = numbered_by C c (seen past s c) ((leads_sound C past s leads).each c) in
    record { unsent = k.unsent; within = k.within }
