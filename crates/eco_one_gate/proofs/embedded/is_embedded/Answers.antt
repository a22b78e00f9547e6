use Rattle.std.proofs.Common.{◌≡◌, ◌++◌, ◌-◌, ◌∙◌, sym, ap, subst, length, replicate, true≢false}
use Rattle.eco_func.specs.Masters.{MasterTables}
use Rattle.eco_embed.specs.declared.feed.Feed.TheVariants.{Zero}
use Rattle.eco_embed.specs.Embeddings as master
use Rattle.eco_one_gate.specs.declared.one_gate.OneGate.{OneGate}
use Rattle.eco_one_gate.proofs.SpareTables.{embedding, to_names, to_tables, count_of}
use Rattle.eco_one_gate.proofs.embedded.is_embedded.Goals as goal

pub returns-then-feeds-inputs : goal.returns-then-feeds-inputs
returns-then-feeds-inputs c x o kind outs = (
  λ t. absurd (true≢false (sym t)),
  λ e. absurd (c.if-feeds-inputs.true (ap length c.as_slice-feeds.ensures.value ∙ count_of c.args.one.now c.args.master.now o x c.inputs.ensures.is_master outs kind c.requires e ∙ sym (ap length c.inputs.ensures.value))),
)

pub returns : goal.returns
returns c x o kind outs =
    let one : OneGate = c.args.one.now in
    let m : MasterTables = c.args.master.now in
    let count : length one.feeds.items ≡ length m.inputs = sym (ap length c.as_slice-feeds.ensures.value) ∙ c.if-feeds-inputs.false ∙ ap length c.inputs.ensures.value in
    let pins = c.embedding_of.ensures.pins ∙ ap (λ fs. fs ++ replicate (6 - length fs) Zero) c.as_slice-feeds.ensures.value in
    let same : c.embedding_of.result ≡ embedding one.feeds.items = λ i. record { output = c.embedding_of.ensures.output i; pins = pins i } in (
      λ t. to_names one m o x c.inputs.ensures.is_master outs kind c.requires count (subst (master.Embeds one.table m) same (c.fits.ensures.0 t)),
      λ e. c.fits.ensures.1 (subst (master.Embeds one.table m) (sym same) (to_tables one m o x c.inputs.ensures.is_master outs kind c.requires count e)),
    )
