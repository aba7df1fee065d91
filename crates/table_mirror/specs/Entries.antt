-- What contracts see of entries that lie in a journal.
use Rattle.std.specs.Prelude.{List, [], ◌∷◌, Option, Some, None}
use Rattle.table_mirror.specs.Pushed.{Entry}
use Rattle.table_mirror.specs.declared.entry.PushedEntry as code

abbrev pub entry_view : code.PushedEntry → Entry
entry_view e = record { moment = e.moment; words = e.words.now; reply = e.reply.now }

abbrev pub entries_of : Option code.PushedEntry → List Entry
entries_of None = []
entries_of (Some e) = entry_view e ∷ []
