use Rattle.std.proofs.Common.{◌≡◌, Vec, Global, ℕ, ◌+◌, ◌++◌, List, [], ◌∷◌, Ok, Err, map, take, drop, get_or, string_bytes, refl, ap, sym, ◌∙◌, subst, arith, rules}
use Rattle.std.proofs.lemmas.List.{map-append, take_all}
use Rattle.std.proofs.lemmas.Result.{err_from_is_err_and}
use Rattle.eco_cli.specs.CommandLine.{inputs_in, listed_of}
use Rattle.eco_cli.specs.Job.{Input}
use Rattle.eco_cli.specs.Returns.{Returns, ReturnsAll, ReturnsSome}
use Rattle.eco_cli.specs.Steps.{Reading, ReadingAll}
use Rattle.eco_cli.specs.declared.command_option.CommandOption.{CommandOption}
use Rattle.eco_cli.specs.declared.command_option.OptionKind.TheVariants as kind
use Rattle.eco_cli.specs.declared.failure.Failure.TheVariants as failed
use Rattle.eco_cli.proofs.Reading.{one_more, stops_at, no_room, all_read, have_as, settled_then, inputs_of, inputs_listed, inputs_up_to, inputs_around, input_is}
use Rattle.eco_cli.proofs.Returning.{all_then, ends_back, no_room_back}
use Rattle.eco_cli.proofs.texts.read_texts.Goals as goal

no_option : CommandOption
no_option = record { word = record { ref_ptr = (0, 0); now = [] }; kind = kind.Input 0 }

pub returns-in_err-text-clause-reading : goal.returns-in_err-text-clause-reading
unfolding no_option
returns-in_err-text-clause-reading g c =
    let h = g.H.Host.told in
    let left = g.H.Input.Source.left in
    let ws = map string_bytes c.args.words.now in
    let os = c.args.options.now in
    let k = c.loop-option.option-index in
    let bytes : Vec ℕ Global → List ℕ = λ v. v.items in
    let all : Vec (Vec ℕ Global) Global → List (List ℕ) = λ v. map (λ t. t.items) v.items in
    let i : Input = record { option = (get_or os k no_option).word.now; name = c.value-name.result.now; limit = c.in-Input.limit } in
    let around = inputs_around ws os k no_option i c.loop-option-test.true (input_is (get_or os k no_option) ws c.in-Input.limit c.value-name.result.now c.in-Input.is c.value-name.ensures) in
    let p = err_from_is_err_and c.from_residual.result c.from_residual.ensures.1 in
    let reading : Reading h left c.loop-option.host c.read_text.new.host i bytes (Err c.in_err-text.field-0.0) = c.in_err-text.ensures.reading in
    let stops = stops_at h left c.args.host.now c.loop-option.host c.read_text.new.host (inputs_of ws (take k os)) (inputs_of ws (drop (k + 1) os)) (map (λ t. t.items) c.loop-option.texts.items) i bytes all c.in_err-text.field-0.0
    c.loop-option.invariant.1 c.loop-option.invariant.0 reading in
    rw (p.1, p.2) (subst (λ inputs. ReadingAll h left c.args.host.now c.read_text.new.host inputs all (Err c.in_err-text.field-0.0)) around stops)

pub returns-then-is_err-clause-reading : goal.returns-then-is_err-clause-reading
unfolding no_option
returns-then-is_err-clause-reading g c =
    let h = g.H.Host.told in
    let left = g.H.Input.Source.left in
    let ws = map string_bytes c.args.words.now in
    let os = c.args.options.now in
    let k = c.loop-option.option-index in
    let bytes : Vec ℕ Global → List ℕ = λ v. v.items in
    let all : Vec (Vec ℕ Global) Global → List (List ℕ) = λ v. map (λ t. t.items) v.items in
    let i : Input = record { option = (get_or os k no_option).word.now; name = c.value-name.result.now; limit = c.in-Input.limit } in
    let around = inputs_around ws os k no_option i c.loop-option-test.true (input_is (get_or os k no_option) ws c.in-Input.limit c.value-name.result.now c.in-Input.is c.value-name.ensures) in
    let reading : Reading h left c.loop-option.host c.read_text.new.host i bytes (Ok c.in_ok-text.text) = c.in_ok-text.ensures.reading in
    let stops = no_room h left c.args.host.now c.loop-option.host c.read_text.new.host (inputs_of ws (take k os)) (inputs_of ws (drop (k + 1) os)) (map (λ t. t.items) c.loop-option.texts.items) i bytes c.in_ok-text.text all
    c.loop-option.invariant.0 reading in
    subst (λ inputs. ReadingAll h left c.args.host.now c.read_text.new.host inputs all (Err failed.Memory)) around stops

pub loop-option-preserved : goal.loop-option-preserved
unfolding no_option
loop-option-preserved g c =
    let h = g.H.Host.told in
    let left = g.H.Input.Source.left in
    let ws = map string_bytes c.args.words.now in
    let os = c.args.options.now in
    let k = c.loop-option.option-index in
    let bytes : Vec ℕ Global → List ℕ = λ v. v.items in
    let i : Input = record { option = (get_or os k no_option).word.now; name = c.value-name.result.now; limit = c.in-Input.limit } in
    let reading : Reading h left c.loop-option.host c.read_text.new.host i bytes (Ok c.in_ok-text.text) = c.in_ok-text.ensures.reading in
    let these : inputs_of ws (take k os) ++ i ∷ [] ≡ inputs_of ws (take (k + 1) os) =
    ap (λ is. inputs_of ws (take k os) ++ is) (sym (input_is (get_or os k no_option) ws c.in-Input.limit c.value-name.result.now c.in-Input.is c.value-name.ensures)) ∙ sym (inputs_up_to ws os k no_option c.loop-option-test.true) in
    let pushed : c.push.new.self.items ≡ c.loop-option.texts.items ++ c.in_ok-text.text ∷ [] = search rules in
    let texts : map bytes c.loop-option.texts.items ++ bytes c.in_ok-text.text ∷ [] ≡ map bytes c.push.new.self.items = sym (map-append bytes c.loop-option.texts.items (c.in_ok-text.text ∷ [])) ∙ ap (map bytes) (sym pushed) in (
      have_as h left c.args.host.now c.read_text.new.host (inputs_of ws (take k os) ++ i ∷ []) (inputs_of ws (take (k + 1) os)) (map bytes c.loop-option.texts.items ++ bytes c.in_ok-text.text ∷ []) (map bytes c.push.new.self.items) these texts
          (one_more h left c.args.host.now c.loop-option.host c.read_text.new.host (inputs_of ws (take k os)) (map bytes c.loop-option.texts.items) i bytes c.in_ok-text.text c.loop-option.invariant.0 reading),
      settled_then h c.args.host.now c.loop-option.host c.read_text.new.host c.loop-option.invariant.1 c.in_ok-text.ensures.settled,
      c.in_ok-text.ensures.sinks ∙ c.loop-option.invariant.2,
      subst (λ is. ReturnsAll h left c.args.host.now c.read_text.new.host is) these
          (all_then h left c.args.host.now c.loop-option.host c.read_text.new.host (inputs_of ws (take k os)) (i ∷ []) c.loop-option.invariant.3 c.loop-option.invariant.0.rest c.in_ok-text.ensures.returned),
    )

pub returns-clause-reading : goal.returns-clause-reading
returns-clause-reading g c =
    let h = g.H.Host.told in
    let left = g.H.Input.Source.left in
    let ws = map string_bytes c.args.words.now in
    let os = c.args.options.now in
    let texts = map (λ t. t.items) c.loop-option.texts.items in
    let whole : inputs_of ws (take c.loop-option.option-index os) ≡ inputs_in (map listed_of os) ws = ap (inputs_of ws) (take_all c.loop-option.option-index os (omega arith)) ∙ sym (inputs_listed ws os) in
    all_read h left c.args.host.now c.loop-option.host (inputs_in (map listed_of os) ws) texts
    (have_as h left c.args.host.now c.loop-option.host (inputs_of ws (take c.loop-option.option-index os)) (inputs_in (map listed_of os) ws) texts texts whole refl c.loop-option.invariant.0)

pub returns-in_err-text-clause-returned : goal.returns-in_err-text-clause-returned
unfolding no_option
returns-in_err-text-clause-returned g c =
    let h = g.H.Host.told in
    let left = g.H.Input.Source.left in
    let ws = map string_bytes c.args.words.now in
    let os = c.args.options.now in
    let k = c.loop-option.option-index in
    let bytes : Vec ℕ Global → List ℕ = λ v. v.items in
    let i : Input = record { option = (get_or os k no_option).word.now; name = c.value-name.result.now; limit = c.in-Input.limit } in
    let around = inputs_around ws os k no_option i c.loop-option-test.true (input_is (get_or os k no_option) ws c.in-Input.limit c.value-name.result.now c.in-Input.is c.value-name.ensures) in
    let p = err_from_is_err_and c.from_residual.result c.from_residual.ensures.1 in
    let reading : Reading h left c.loop-option.host c.read_text.new.host i bytes (Err c.in_err-text.field-0.0) = c.in_err-text.ensures.reading in
    let ends : Returns {V = Vec (Vec ℕ Global) Global} h left c.args.host.now c.read_text.new.host (inputs_of ws (take k os) ++ i ∷ inputs_of ws (drop (k + 1) os)) (Err c.in_err-text.field-0.0) =
    ends_back (Vec (Vec ℕ Global) Global) h left c.args.host.now c.loop-option.host c.read_text.new.host (inputs_of ws (take k os)) (inputs_of ws (drop (k + 1) os)) i bytes c.in_err-text.field-0.0
    c.loop-option.invariant.3 c.loop-option.invariant.0.rest reading c.in_err-text.ensures.returned in
    rw (p.1, p.2) (subst (λ inputs. Returns {V = Vec (Vec ℕ Global) Global} h left c.args.host.now c.read_text.new.host inputs (Err c.in_err-text.field-0.0)) around ends)

pub returns-then-is_err-clause-returned : goal.returns-then-is_err-clause-returned
unfolding no_option
returns-then-is_err-clause-returned g c =
    let h = g.H.Host.told in
    let left = g.H.Input.Source.left in
    let ws = map string_bytes c.args.words.now in
    let os = c.args.options.now in
    let k = c.loop-option.option-index in
    let i : Input = record { option = (get_or os k no_option).word.now; name = c.value-name.result.now; limit = c.in-Input.limit } in
    let around = inputs_around ws os k no_option i c.loop-option-test.true (input_is (get_or os k no_option) ws c.in-Input.limit c.value-name.result.now c.in-Input.is c.value-name.ensures) in
    subst (λ inputs. ReturnsSome h left c.args.host.now c.read_text.new.host inputs) around
    (no_room_back h left c.args.host.now c.loop-option.host c.read_text.new.host (inputs_of ws (take k os)) (inputs_of ws (drop (k + 1) os)) i c.loop-option.invariant.3 c.loop-option.invariant.0.rest c.in_ok-text.ensures.returned)

pub returns-clause-returned : goal.returns-clause-returned
returns-clause-returned g c =
    let h = g.H.Host.told in
    let left = g.H.Input.Source.left in
    let ws = map string_bytes c.args.words.now in
    let os = c.args.options.now in
    let whole : inputs_of ws (take c.loop-option.option-index os) ≡ inputs_in (map listed_of os) ws = ap (inputs_of ws) (take_all c.loop-option.option-index os (omega arith)) ∙ sym (inputs_listed ws os) in
    subst (λ inputs. ReturnsAll h left c.args.host.now c.loop-option.host inputs) whole c.loop-option.invariant.3
