-- Each statement with its proof.
use Rattle.notation.specs.Statements.{ReadingSound, ReadingComplete, ReadingInOrder, TablesListed, NodesCounted, FaultRight, MisplacedRight, DepthRight, SpellingRight, NamesRight, KindsRight, NodesRight, SecondRight, UnruledRight, RefusalsTold}
use Rattle.notation.specs.Shaped.{TablesWellFormed, LastRuleLast}
use Rattle.notation.specs.Meaning.{TablesMean}
use Rattle.notation.specs.Listing.{NumberingListed, NodesSized, ReadingLists}
use Rattle.notation.specs.Completed.{NodesCompleted, EachCompletes, AllCompleted, NodesPassed}
use Rattle.notation.proofs.Ends as ends
use Rattle.notation.proofs.Begins as begins
use Rattle.notation.proofs.Told as told
use Rattle.notation.proofs.Complete as complete
use Rattle.notation.proofs.Shaping as shaping
use Rattle.notation.proofs.Needed as needed
use Rattle.notation.proofs.Exact as exact
use Rattle.notation.proofs.Rules as rules
use Rattle.notation.proofs.Listed as listed

-- what is read
pub reading_sound : ReadingSound
reading_sound = begins.reading_sound

pub reading_complete : ReadingComplete
reading_complete = complete.reading_complete

pub reading_in_order : ReadingInOrder
reading_in_order = needed.reading_in_order

-- what the tables are
pub tables_mean : TablesMean
tables_mean = rules.tables_mean

pub tables_listed : TablesListed
tables_listed = needed.tables_listed

pub tables_well_formed : TablesWellFormed
tables_well_formed = shaping.tables_well_formed

pub last_rule_last : LastRuleLast
last_rule_last = needed.last_rule_last

pub nodes_counted : NodesCounted
nodes_counted = told.nodes_counted

-- what the tables are, from the syntax alone
pub reading_lists : ReadingLists
reading_lists = listed.reading_lists

pub numbering_listed : NumberingListed
numbering_listed = listed.numbering_listed

pub nodes_sized : NodesSized
nodes_sized = listed.nodes_sized

-- what each refusal says where it is told, from refusal 2 to refusal 10
pub fault_right : FaultRight
fault_right = begins.fault_right

pub misplaced_right : MisplacedRight
misplaced_right = begins.misplaced_right

pub depth_right : DepthRight
depth_right = told.depth_right

pub spelling_right : SpellingRight
spelling_right = told.spelling_right

pub names_right : NamesRight
names_right = told.names_right

pub kinds_right : KindsRight
kinds_right = told.kinds_right

pub nodes_right : NodesRight
nodes_right = told.nodes_right

pub second_right : SecondRight
second_right = told.second_right

pub unruled_right : UnruledRight
unruled_right = complete.unruled_right

-- each refusal is told wherever what it says holds
pub refusals_told : RefusalsTold
refusals_told = exact.refusals_told

-- which token completes which node, from the syntax alone
pub nodes_completed : NodesCompleted
nodes_completed = ends.nodes_completed

pub each_completes : EachCompletes
each_completes = ends.each_completes

pub all_completed : AllCompleted
all_completed = ends.all_completed

pub nodes_passed : NodesPassed
nodes_passed = ends.nodes_passed
