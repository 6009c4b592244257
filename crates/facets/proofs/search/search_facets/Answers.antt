use Rattle.std.proofs.Common.{◌<◌, ◌≤◌, arith, length}
use Rattle.facets.proofs.LookLemmas.{looks-all, looks-next, looks-so_far}
use Rattle.facets.proofs.search.search_facets.Goals as goal

pub returns-in_err-key-clause-bound : goal.returns-in_err-key-clause-bound
returns-in_err-key-clause-bound g c =
    looks-so_far (length c.args.numbers.now) c.as_slice-names.result.now c.args.request.now.fields c.loop-name.name-index
    c.args.steps.now c.loop-name.steps c.as_slice-names.ensures c.loop-name.invariant.1

pub returns-in_err-dictionary-clause-bound : goal.returns-in_err-dictionary-clause-bound
returns-in_err-dictionary-clause-bound g c =
    let within : c.loop-name.name-index < length c.as_slice-names.result.now = omega arith in
    looks-next (length c.args.numbers.now) c.as_slice-names.result.now c.args.request.now.fields c.loop-name.name-index
    c.args.steps.now c.loop-name.steps c.field_dictionary.new.steps c.name-item.result c.as_slice-names.ensures within
    c.name-item.is c.loop-name.invariant.1 c.field_dictionary.ensures.bound

pub returns-in_err-push-clause-bound : goal.returns-in_err-push-clause-bound
returns-in_err-push-clause-bound g c =
    let within : c.loop-name.name-index < length c.as_slice-names.result.now = omega arith in
    looks-next (length c.args.numbers.now) c.as_slice-names.result.now c.args.request.now.fields c.loop-name.name-index
    c.args.steps.now c.loop-name.steps c.field_dictionary.new.steps c.name-item.result c.as_slice-names.ensures within
    c.name-item.is c.loop-name.invariant.1 c.field_dictionary.ensures.bound

pub returns-clause-steps : goal.returns-clause-steps
returns-clause-steps g c =
    let past : length c.as_slice-names.result.now ≤ c.loop-name.name-index = omega arith in
    looks-all (length c.args.numbers.now) c.as_slice-names.result.now c.args.request.now.fields c.loop-name.name-index
    c.args.steps.now c.loop-name.steps c.as_slice-names.ensures past c.loop-name.invariant.1

pub returns-clause-bound : goal.returns-clause-bound
returns-clause-bound g c =
    looks-so_far (length c.args.numbers.now) c.as_slice-names.result.now c.args.request.now.fields c.loop-name.name-index
    c.args.steps.now c.loop-name.steps c.as_slice-names.ensures c.loop-name.invariant.1
