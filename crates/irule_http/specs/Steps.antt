-- What each form does.
use Rattle.std.specs.Prelude.{ℕ, List, []}
use Rattle.px_bytes.specs.Host.{Gives}
use Rattle.event_order.specs.declared.event.EventName.{EventName}
use Rattle.irule_http.specs.Answers.{redirects, responds}
use Rattle.irule_http.specs.Edits.{Step, puts_cookie, puts_field, removes_cookie, removes_field}
use Rattle.irule_http.specs.Edits.{sets_path, sets_uri}
use Rattle.irule_http.specs.Payload.{closing, collects, collects_word, payload_limit, releases, replaces}
use Rattle.irule_http.specs.Told.{told}
use Rattle.irule_http.specs.declared.form.Form.{Form}
use Rattle.irule_http.specs.declared.form.Form.TheVariants as form
use Rattle.irule_http.specs.declared.state.Http.{Http}

-- what a command of this name does in a form with these words
abbrev pub done : EventName → List ℕ → List (List ℕ) → Form → Http → Step
done event name words form.SetUri h = sets_uri name words h
done event name words form.SetPath h = sets_path name words h
done event name words form.FieldInsert h = puts_field event form.FieldInsert name words h
done event name words form.FieldReplace h = puts_field event form.FieldReplace name words h
done event name words form.FieldRemove h = removes_field event name words h
done event name words form.CookieInsert h = puts_cookie event name words h
done event name words form.CookieRemove h = removes_cookie event name words h
done event name words form.CollectAll h = collects name payload_limit h
done event name words form.Collect h = collects_word name words h
done event name words form.Release h = releases name h
done event name words form.Close h = Gives [] (closing h) []
done event name words form.Replace h = replaces name words h
done event name words form.Respond h = responds event name words h
done event name words form.Redirect h = redirects event name words h
done event name words form h = Gives (told event form words h) h []
