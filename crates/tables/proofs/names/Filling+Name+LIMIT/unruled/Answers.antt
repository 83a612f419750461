use borrow.Author.Tests.{tests}
use Rattle.std.proofs.Common.{◌≡◌, eqb, ap, ◌∙◌, rules}
use Rattle.std.proofs.lemmas.Iterator.{YieldsList-from_slice}
use Rattle.std.proofs.lemmas.Iterator.Search.{find_from_yields_List}
use Rattle.std.specs.Option.{option_map}
use Rattle.tables.specs.Filling.{entries}
use Rattle.tables.specs.Names.{lowest_unruled}
use Rattle.tables.proofs.Named.{lowest_found}
use Rattle.tables.proofs.names.Filling+Name+LIMIT.unruled.Goals as goal
use Rattle.tables.proofs.names.Filling+Name+LIMIT.unruled.Given.{Over}
use Rattle.tables.proofs.names.Filling+Name+LIMIT.unruled.Goals.{After-find}

found : (g : Over) (c : After-find g) → option_map (λ n. n.place) (option_map (λ x. x.now) c.find.result) ≡ lowest_unruled (entries c.args.self.now)
found g c =
    let first = find_from_yields_List (λ n. eqb n.root 1024) _ _ c.find.result c.find.ensures.ran (YieldsList-from_slice c.entries.result.now cc) (λ x b q k. search (rules, tests)) in
    ap (option_map (λ n. n.place)) first ∙ lowest_found c.entries.result.now ∙ ap lowest_unruled c.entries.ensures

pub returns-in_err-name : goal.returns-in_err-name
returns-in_err-name g c = let told = found g (goal.at.returns-in_err-name g c).After-find in c.from_residual.ensures ∙ rw c.in_err-name.was at told

pub returns : goal.returns
returns g c = let told = found g (goal.at.returns g c).After-find in rw c.in_ok-name.was at told
