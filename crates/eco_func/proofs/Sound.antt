-- What a document's masters say is never that the text is no TOML document.
use Rattle.std.proofs.Common.{ℕ, Bool, true, false, cond, List, Option, Some, None, Result, Ok, Err, option_and_then, codes, length, nat_le}
use Rattle.std.specs.List.{list_all}
use Rattle.toml.specs.Data.{Data, Members, no_members, member, get, as_str, as_array, as_table}
use Rattle.eco_func.specs.declared.fault.FuncFault.{FuncFault}
use Rattle.eco_func.specs.declared.fault.FuncFault.TheVariants.{BadToml, BadField, TooManyInputs, BadTable, BadExpression, UnknownInput, TooManyMasters, Memory}
use Rattle.eco_func.specs.Masters.{all_differ}
use Rattle.eco_func.specs.Expressions.{Expression, expression_in, first_unknown}
use Rattle.eco_func.specs.FunctionsFile.{◌>>=◌, or_fault, is_bit, is_master_field, table_of, known, expressed, output_table, output_of, outputs_of, output_pins, outputs_in, may_be_outputs, counted, distinct, inputs_of, no_other, master_in, master_of, masters_of, texts_of}

abbrev pub Sound : {A : Type 0} → Result A FuncFault → Type 0
Sound (Ok x) = Unit {0}
Sound (Err BadToml) = ⊥
Sound (Err e) = Unit {0}

sound_bind : {A B : Type 0} (x : Result A FuncFault) (f : A → Result B FuncFault) → Sound x → ((a : A) → Sound (f a)) → Sound (x >>= f)
sound_bind (Ok a) f s g = g a
sound_bind (Err BadToml) f s g = s
sound_bind (Err (BadField m x)) f s g = tt
sound_bind (Err (TooManyInputs m)) f s g = tt
sound_bind (Err (BadTable m o)) f s g = tt
sound_bind (Err (BadExpression m o p)) f s g = tt
sound_bind (Err (UnknownInput m o i)) f s g = tt
sound_bind (Err (TooManyMasters n)) f s g = tt
sound_bind (Err Memory) f s g = tt

sound_field : {A : Type 0} (m f : List ℕ) (o : Option A) → Sound (or_fault (BadField m f) o)
sound_field m f None = tt
sound_field m f (Some x) = tt

sound_if : {A : Type 0} (b : Bool) (x y : Result A FuncFault) → Sound x → Sound y → Sound (cond b x y)
sound_if true x y s t = s
sound_if false x y s t = t

sound_expressed : (m p : List ℕ) (inputs : List (List ℕ)) (r : Result Expression ℕ) → Sound (expressed m p inputs r)
sound_expressed m p inputs (Err place) = tt
sound_expressed m p inputs (Ok e) = by (first_unknown inputs e)
  where
    by : (o : Option (List ℕ)) → Sound (known m p inputs e o)
    by None = tt
    by (Some n) = tt

sound_table : (m p : List ℕ) (inputs : List (List ℕ)) (text : List ℕ) → Sound (output_table m p inputs text)
sound_table m p inputs text =
    sound_if (list_all is_bit text) (or_fault (BadTable m p) (table_of (length inputs) text)) (expressed m p inputs (expression_in text)) (by (table_of (length inputs) text)) (sound_expressed m p inputs (expression_in text))
  where
    by : {A : Type 0} (o : Option A) → Sound (or_fault (BadTable m p) o)
    by None = tt
    by (Some t) = tt

sound_output : (m p : List ℕ) (inputs : List (List ℕ)) (d : Data) → Sound (output_of m p inputs d)
sound_output m p inputs d = sound_bind (or_fault (BadField m (codes "outputs")) (as_str d)) (output_table m p inputs) (sound_field m (codes "outputs") (as_str d)) (sound_table m p inputs)

sound_outputs : (m : List ℕ) (inputs : List (List ℕ)) (pins : Members) → Sound (outputs_of m inputs pins)
sound_outputs m inputs no_members = tt
sound_outputs m inputs (member p d ps) = sound_bind (output_of m p inputs d) _ (sound_output m p inputs d) (λ t. sound_bind (outputs_of m inputs ps) _ (sound_outputs m inputs ps) (λ xs. tt))

sound_outputs_in : (m : List ℕ) (d : Data) (inputs : List (List ℕ)) → Sound (outputs_in m d inputs)
sound_outputs_in m d inputs =
    let table = option_and_then as_table (get (codes "outputs") d) in
    sound_bind (or_fault (BadField m (codes "outputs")) table >>= output_pins m inputs) (outputs_of m inputs)
    (sound_bind (or_fault (BadField m (codes "outputs")) table) (output_pins m inputs) (sound_field m (codes "outputs") table) (λ pins. sound_if (may_be_outputs inputs pins) (Ok pins) (Err (BadField m (codes "outputs"))) tt tt))
    (sound_outputs m inputs)

sound_inputs : (m : List ℕ) (d : Data) → Sound (inputs_of m d)
sound_inputs m d =
    let texts = option_and_then texts_of (option_and_then as_array (get (codes "inputs") d)) in
    sound_bind (or_fault (BadField m (codes "inputs")) texts) (distinct m) (sound_field m (codes "inputs") texts)
    (λ inputs. sound_if (all_differ inputs) (counted m inputs) (Err (BadField m (codes "inputs"))) (sound_if (nat_le (length inputs) 6) (Ok inputs) (Err (TooManyInputs m)) tt tt) tt)

sound_no_other : (m : List ℕ) (fields : Members) → Sound (no_other m fields)
sound_no_other m no_members = tt
sound_no_other m (member k d ms) = sound_if (is_master_field k) (no_other m ms) (Err (BadField m k)) (sound_no_other m ms) tt

sound_master : (m : List ℕ) (d : Data) → Sound (master_of m d)
sound_master m d =
    sound_bind (or_fault (BadField m (codes "inputs")) (as_table d)) (master_in m d) (sound_field m (codes "inputs") (as_table d))
    (λ fields. sound_bind (inputs_of m d) _ (sound_inputs m d) (λ inputs. sound_bind (outputs_in m d inputs) _ (sound_outputs_in m d inputs) (λ outputs. sound_bind (no_other m fields) _ (sound_no_other m fields) (λ none. tt))))

pub sound_masters : (ms : Members) → Sound (masters_of ms)
sound_masters no_members = tt
sound_masters (member k d ms) = sound_bind (master_of k d) _ (sound_master k d) (λ m. sound_bind (masters_of ms) _ (sound_masters ms) (λ xs. tt))
