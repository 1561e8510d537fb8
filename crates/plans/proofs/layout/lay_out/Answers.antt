-- Each list is found right behind the one before.
use Rattle.std.proofs.Common.{rules}
use Rattle.plans.specs.Layout.{layout_of, branches_in, roles_in, principal_in, grants_in, takes_in, sets_in, pieces_in}
use Rattle.plans.proofs.layout.lay_out.Goals as goal

pub returns : goal.returns
unfolding layout_of branches_in roles_in principal_in grants_in takes_in sets_in pieces_in
returns c = search rules
