-- A table with more behind the text of a name.
use Rattle.std.proofs.Common.{ℕ, List, [], ◌++◌, unwrap_or}
use Rattle.tcl_vars.specs.Scopes.{Table, find_in, put_in}

abbrev pub with_more : List ℕ → List ℕ → Table (List ℕ) → Table (List ℕ)
with_more name more table = put_in name (unwrap_or (find_in name table) [] ++ more) table
