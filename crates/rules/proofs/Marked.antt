-- The marked lines, by computing them.
use Rattle.std.proofs.Common.{refl}
use lib.Count.{ones}
use Rattle.std.specs.Fmt.{digits}
use Rattle.search.specs.Searches.{any_below, sum_below}
use Rattle.orders.specs.Masks.{names_members}
use Rattle.fields.specs.Records.{filled}
use Rattle.plans.specs.Layout.{layout_of, branches_in, roles_in, principal_in, grants_in, takes_in, sets_in, pieces_in}
use Rattle.plans.specs.Reader.{plan_made, plan_result}
use Rattle.messages.specs.Reading.{message_result}
use Rattle.messages.specs.Said.{said_in}
use Rattle.rules.specs.Calls.{close_row, decide_row, enrol_row, forbid_row, grant_row, open_row, permit_row, sit_row, strike_row, take_row, throughout_row}
use Rattle.rules.specs.Choices.{finds, full_set, governs, governs_met, has_permit, met_line, met_place, permitted_place, permitted_role, postings_of, principal_place, roles_of_set, served_place, serving_line, takes}
use Rattle.rules.specs.Marked.{MarkedLines, class_bytes, class_plan, other_rows, seventh_row, six_rows}
use Rattle.rules.specs.Numbers.{numbers_checked}
use Rattle.rules.specs.Runs.{answer, next}
use Rattle.rules.specs.Setup.{new}
use Rattle.rules.specs.Views.{about, blank, candidate, commander, sight, view}
use Rattle.rules.specs.Words.{closed_over, posted_to, holds, belongs, counts, commands, meets}

pub marked_lines : MarkedLines
unfolding ones digits any_below sum_below names_members filled layout_of branches_in roles_in principal_in grants_in takes_in sets_in pieces_in plan_made plan_result message_result said_in governs governs_met served_place serving_line met_place met_line principal_place has_permit permitted_place permitted_role roles_of_set full_set finds takes postings_of decide_row grant_row take_row throughout_row enrol_row strike_row open_row close_row permit_row forbid_row sit_row class_bytes class_plan other_rows seventh_row six_rows numbers_checked answer next new about blank candidate commander sight view closed_over posted_to holds belongs counts commands meets
marked_lines =
    record {
      plan = refl;
      evenings = (record { readable = refl; lines = refl }, (record { readable = refl; lines = refl }, tt));
    }
