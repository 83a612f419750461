use Rattle.std.proofs.Common.{subst, rules}
use Rattle.grammar.specs.Sound.{zero_name, zero_spelling}
use Rattle.grammar.proofs.Filling.{new_clean}
use Rattle.tables.specs.Nodes.{zero_node}
use Rattle.tokens.specs.Layered.{Layered}
use Rattle.grammar.proofs.judging.fill.Goals as goal

pub read_all-requires : goal.read_all-requires
read_all-requires c =
    let names = c.new-names.ensures.empty in
    let kinds = c.new-kinds.ensures.empty in
    let nodes = c.empty-nodes.ensures.empty in (
      subst (λ x. Layered x c.args.text.now c.in_ok-source.source) c.vocabulary.ensures c.in_ok-source.ensures,
      record {
        no_name = names.none;
        no_kind = kinds.none;
        no_node = nodes.none;
        names_clean = new_clean _ zero_name _ c.new-names.result names (search rules);
        kinds_clean = new_clean _ zero_spelling _ c.new-kinds.result kinds (search rules);
        nodes_clean = new_clean _ zero_node _ c.empty-nodes.result nodes (search rules);
      },
    )
