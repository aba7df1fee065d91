-- What commands on variables keep, where single changes keep it.
use Rattle.std.proofs.Common.{ℕ, List, [], ◌∷◌, Bool, true, false, Option, Some, None, Result, Ok, Err, if◌then◌else◌, codes}
use Rattle.std.proofs.Common.{nat_lt}
use Rattle.std.specs.Prelude.{◌||◌}
use Rattle.std.specs.Str.{bytes_eq}
use Rattle.px_bytes.specs.FaultText.{static_set, too_long, syntax_error}
use Rattle.px_bytes.specs.declared.fault.TclFault.{TclFault}
use Rattle.tcl_vars.specs.Indexes.{indexes_at}
use Rattle.tcl_vars.specs.Names.{Name, name_of}
use Rattle.tcl_vars.specs.Scopes.{Level, Scopes, with_value, without_value, vars_bytes, vars_limit, is_set}
use Rattle.tcl_var_commands.specs.Changed.{Changed, gives, fails, then_by, then_changed, in_turn}
use Rattle.tcl_var_commands.specs.Reading.{is_only_read}
use Rattle.tcl_var_commands.specs.Assigning.{assigned_in_room, assigned, in_row, pair_assigned, row_assigned}
use Rattle.tcl_var_commands.specs.Set.{set_changed}
use Rattle.tcl_var_commands.specs.Unset.{unset_one, unset_each, unset_names, unset_changed, cannot_unset}
use Rattle.tcl_var_commands.specs.Incr.{incremented, incr_changed}
use Rattle.tcl_var_commands.specs.Append.{append_changed}
use Rattle.tcl_var_commands.specs.Lappend.{lappend_changed}
use Rattle.tcl_var_commands.specs.Info.{info_changed, exists_form}
use Rattle.tcl_var_commands.specs.Array.{form_of, in_pairs, element_assigned, pairs_assigned, even_list, list_assigned, set_form, without_indexes, unset_form, ask_form, formed, array_changed}
use Rattle.tcl_var_commands.specs.declared.array.ArrayForm.{ArrayForm}
use Rattle.tcl_var_commands.specs.declared.array.Question.{Question}
use Rattle.tcl_var_commands.specs.declared.array.ArrayForm.TheVariants.{Ask, Set, Unset}

-- a relation of variables to later ones that single changes keep
pub record Changing (V : Scopes → Scopes → Type 0) : Type 0 where
  pub same : (a : Scopes) → V a a
  pub joins : (a b c : Scopes) → V a b → V b c → V a c
  pub sets : (a : Scopes) (name : List ℕ) (index : Option (List ℕ)) (text : List ℕ) → V a (with_value name index text a)
  pub unsets : (a : Scopes) (name : List ℕ) (index : Option (List ℕ)) → V a (without_value name index a)

module _ (V : Scopes → Scopes → Type 0) (c : Changing V) where
  if_kept : (b : Bool) (a : Scopes) (x y : Changed) → V a x.vars → V a y.vars → V a (if b then x else y).vars
  if_kept true a x y h k = h
  if_kept false a x y h k = k

  by_kept : (value : Result (List ℕ) TclFault) (a v : Scopes) (go : List ℕ → Scopes → Changed) → V a v → ((text : List ℕ) (b : Scopes) → V b (go text b).vars) → V a (then_by value v go).vars
  by_kept (Ok text) a v go h k = c.joins a v (go text v).vars h (k text v)
  by_kept (Err e) a v go h k = h

  pub then_kept : (x : Changed) (a : Scopes) (go : List ℕ → Scopes → Changed) → V a x.vars → ((text : List ℕ) (b : Scopes) → V b (go text b).vars) → V a (then_changed x go).vars
  then_kept x a go h k = by_kept x.value a x.vars go h k

  pub assigned_kept : (statics : Option Level) (name : Name) (text : List ℕ) (a : Scopes) → V a (assigned statics name text a).vars
  assigned_kept statics name text a =
      if_kept (is_only_read statics name.name) a (fails static_set a) (assigned_in_room name text a) (c.same a)
      (if_kept (nat_lt vars_limit (vars_bytes (with_value name.name name.index text a))) a (fails too_long a) (gives text (with_value name.name name.index text a)) (c.same a) (c.sets a name.name name.index text))

  pub turn_kept : {X : Type 0} (step : X → Scopes → Changed) → ((x : X) (a : Scopes) → V a (step x a).vars) → (xs : List X) (a : Scopes) → V a (in_turn step xs a).vars
  turn_kept step k [] a = c.same a
  turn_kept step k (x ∷ xs) a = then_kept (step x a) a _ (k x a) (λ text b. turn_kept step k xs b)

  pub row_kept : (statics : Option Level) (names values : List (List ℕ)) (a : Scopes) → V a (row_assigned statics names values a).vars
  row_kept statics names values a = turn_kept (pair_assigned statics) (λ pair b. assigned_kept statics (name_of pair.0) pair.1 b) (in_row names values) a

  pub set_kept : (statics : Option Level) (words : List (List ℕ)) (a : Scopes) → V a (set_changed statics words a).vars
  set_kept statics [] a = c.same a
  set_kept statics (verb ∷ []) a = c.same a
  set_kept statics (verb ∷ (text ∷ [])) a = c.same a
  set_kept statics (verb ∷ (text ∷ (value ∷ []))) a = assigned_kept statics (name_of text) value a
  set_kept statics (verb ∷ (text ∷ (value ∷ (w ∷ ws)))) a = c.same a

  one_kept : (statics : Option Level) (lenient : Bool) (text : List ℕ) (a : Scopes) → V a (unset_one statics lenient text a).vars
  one_kept statics lenient text a =
      let name = name_of text in
      if_kept (is_only_read statics name.name) a (fails static_set a) _ (c.same a)
      (if_kept (is_set a name.name name.index || lenient) a (gives [] (without_value name.name name.index a)) (fails (cannot_unset text) a) (c.unsets a name.name name.index) (c.same a))

  each_kept : (statics : Option Level) (lenient : Bool) (texts : List (List ℕ)) (a : Scopes) → V a (unset_each statics lenient texts a).vars
  each_kept statics lenient texts a = turn_kept (unset_one statics lenient) (one_kept statics lenient) texts a

  names_kept : (statics : Option Level) (lenient : Bool) (texts : List (List ℕ)) (a : Scopes) → V a (unset_names statics lenient texts a).vars
  names_kept statics lenient [] a = c.same a
  names_kept statics lenient (text ∷ texts) a = each_kept statics lenient (text ∷ texts) a

  pub unset_kept : (statics : Option Level) (words : List (List ℕ)) (a : Scopes) → V a (unset_changed statics words a).vars
  unset_kept statics [] a = c.same a
  unset_kept statics (verb ∷ []) a = c.same a
  unset_kept statics (verb ∷ (first ∷ texts)) a =
      if_kept (bytes_eq first (codes "-nocomplain")) a (unset_names statics true texts a) (unset_names statics false (first ∷ texts) a) (names_kept statics true texts a) (names_kept statics false (first ∷ texts) a)

  incremented_kept : (statics : Option Level) (text more : List ℕ) (a : Scopes) → V a (incremented statics text more a).vars
  incremented_kept statics text more a = then_kept _ a _ (c.same a) (λ value b. assigned_kept statics (name_of text) value b)

  pub incr_kept : (statics : Option Level) (words : List (List ℕ)) (a : Scopes) → V a (incr_changed statics words a).vars
  incr_kept statics [] a = c.same a
  incr_kept statics (verb ∷ []) a = c.same a
  incr_kept statics (verb ∷ (text ∷ [])) a = incremented_kept statics text (codes "1") a
  incr_kept statics (verb ∷ (text ∷ (more ∷ []))) a = incremented_kept statics text more a
  incr_kept statics (verb ∷ (text ∷ (more ∷ (w ∷ ws)))) a = c.same a

  pub append_kept : (statics : Option Level) (words : List (List ℕ)) (a : Scopes) → V a (append_changed statics words a).vars
  append_kept statics [] a = c.same a
  append_kept statics (verb ∷ []) a = c.same a
  append_kept statics (verb ∷ (text ∷ values)) a = assigned_kept statics (name_of text) _ a

  pub lappend_kept : (statics : Option Level) (words : List (List ℕ)) (a : Scopes) → V a (lappend_changed statics words a).vars
  lappend_kept statics [] a = c.same a
  lappend_kept statics (verb ∷ []) a = c.same a
  lappend_kept statics (verb ∷ (text ∷ elements)) a = assigned_kept statics (name_of text) _ a

  exists_kept : (statics : Option Level) (words : List (List ℕ)) (a : Scopes) → V a (exists_form statics words a).vars
  exists_kept statics [] a = c.same a
  exists_kept statics (text ∷ []) a = c.same a
  exists_kept statics (text ∷ (w ∷ ws)) a = c.same a

  pub info_kept : (statics : Option Level) (words : List (List ℕ)) (a : Scopes) → V a (info_changed statics words a).vars
  info_kept statics [] a = c.same a
  info_kept statics (verb ∷ []) a = c.same a
  info_kept statics (verb ∷ (form ∷ words)) a = if_kept (bytes_eq form (codes "exists")) a (exists_form statics words a) (fails (syntax_error (codes "info")) a) (exists_kept statics words a) (c.same a)

  list_kept : (statics : Option Level) (name : List ℕ) (pairs : Result (List (List ℕ)) TclFault) (a : Scopes) → V a (list_assigned statics name pairs a).vars
  list_kept statics name (Err fault) a = c.same a
  list_kept statics name (Ok pairs) a =
      if_kept (is_only_read statics name) a (fails static_set a) (pairs_assigned statics name pairs a) (c.same a)
      (turn_kept (element_assigned statics name) (λ pair b. assigned_kept statics (record { name = name; index = Some pair.0 }) pair.1 b) (in_pairs pairs) a)

  ask_kept : (statics : Option Level) (question : Question) (words : List (List ℕ)) (a : Scopes) → V a (ask_form statics question words a).vars
  ask_kept statics question [] a = c.same a
  ask_kept statics question (name ∷ []) a = c.same a
  ask_kept statics question (name ∷ (w ∷ ws)) a = c.same a

  set_form_kept : (statics : Option Level) (words : List (List ℕ)) (a : Scopes) → V a (set_form statics words a).vars
  set_form_kept statics [] a = c.same a
  set_form_kept statics (name ∷ []) a = c.same a
  set_form_kept statics (name ∷ (list ∷ [])) a = list_kept statics name (even_list list) a
  set_form_kept statics (name ∷ (list ∷ (w ∷ ws))) a = c.same a

  indexes_kept : (name : List ℕ) (indexes : List (List ℕ)) (a : Scopes) → V a (without_indexes name indexes a)
  indexes_kept name [] a = c.same a
  indexes_kept name (index ∷ indexes) a =
      c.joins a (without_value name (Some index) a) _ (c.unsets a name (Some index)) (indexes_kept name indexes (without_value name (Some index) a))

  unset_form_kept : (statics : Option Level) (words : List (List ℕ)) (a : Scopes) → V a (unset_form statics words a).vars
  unset_form_kept statics [] a = c.same a
  unset_form_kept statics (name ∷ []) a =
      if_kept (is_only_read statics name) a (fails static_set a) (gives [] (without_indexes name (indexes_at a name) a)) (c.same a) (indexes_kept name (indexes_at a name) a)
  unset_form_kept statics (name ∷ (w ∷ ws)) a = c.same a

  formed_kept : (statics : Option Level) (form : Option ArrayForm) (words : List (List ℕ)) (a : Scopes) → V a (formed statics form words a).vars
  formed_kept statics None words a = c.same a
  formed_kept statics (Some (Ask question)) words a = ask_kept statics question words a
  formed_kept statics (Some Set) words a = set_form_kept statics words a
  formed_kept statics (Some Unset) words a = unset_form_kept statics words a

  pub array_kept : (statics : Option Level) (words : List (List ℕ)) (a : Scopes) → V a (array_changed statics words a).vars
  array_kept statics [] a = c.same a
  array_kept statics (verb ∷ []) a = c.same a
  array_kept statics (verb ∷ (form ∷ words)) a = formed_kept statics (form_of form) words a
