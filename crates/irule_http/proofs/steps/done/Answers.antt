use Rattle.irule_http.proofs.Sending.{sends_nothing}
use Rattle.irule_http.proofs.steps.done.Goals as goal

pub returns-in-SetUri : goal.returns-in-SetUri
returns-in-SetUri c = rw c.in-SetUri.is (sends_nothing _ _ _ c.args.sent.now c.sets_uri.ensures)

pub returns-in-SetPath : goal.returns-in-SetPath
returns-in-SetPath c = rw c.in-SetPath.is (sends_nothing _ _ _ c.args.sent.now c.sets_path.ensures)

pub returns-in-FieldRemove : goal.returns-in-FieldRemove
returns-in-FieldRemove c = rw c.in-FieldRemove.is (sends_nothing _ _ _ c.args.sent.now c.removes_field.ensures)

pub returns-in-CookieInsert : goal.returns-in-CookieInsert
returns-in-CookieInsert c = rw c.in-CookieInsert.is (sends_nothing _ _ _ c.args.sent.now c.puts_cookie.ensures)

pub returns-in-CookieRemove : goal.returns-in-CookieRemove
returns-in-CookieRemove c = rw c.in-CookieRemove.is (sends_nothing _ _ _ c.args.sent.now c.removes_cookie.ensures)

pub returns-in-CollectAll : goal.returns-in-CollectAll
returns-in-CollectAll c = rw c.in-CollectAll.is (sends_nothing _ _ _ c.args.sent.now c.collects.ensures)

pub returns-in-Collect : goal.returns-in-Collect
returns-in-Collect c = rw c.in-Collect.is (sends_nothing _ _ _ c.args.sent.now c.collects_word.ensures)

pub returns-in-Release : goal.returns-in-Release
returns-in-Release c = rw c.in-Release.is (sends_nothing _ _ _ c.args.sent.now c.releases.ensures)

pub returns-in-Replace : goal.returns-in-Replace
returns-in-Replace c = rw c.in-Replace.is (sends_nothing _ _ _ c.args.sent.now c.replaces.ensures)
