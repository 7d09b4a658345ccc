-- No subtraction goes below 0.
-- Assumes nothing.
use Rattle.triplets.proofs.lemmas.FormedTriplets.{rest_fits, table_formed}
use Rattle.kept_triplets.proofs.tables.form_table.Goals as goal

pub overflow_sub-e-4 : goal.overflow_sub-e-4
overflow_sub-e-4 c = rest_fits _ _ _ _ _ _ c.sets_of_three.ensures c.requires.E_fits

pub returns : goal.returns
returns c = table_formed c.args.n _ _ _ _ _ c.sets_of_three.ensures
