-- `gather` meets its contract. Assumes nothing.
use mathlib.Core.Path.{◌∙◌}
use native.Mathlib.Omega.{arith}
use lib.ListN.{replicate, take, length-take}
use Rattle.std.proofs.lemmas.Result.{err_from_is_err_and}
use Rattle.gather_descriptors.specs.Reading.{whole, reading}
use Rattle.gather_descriptors.proofs.Whole.{found, was_refused, was_whole}
use Rattle.gather.proofs.Ends.{list_refused, list_whole}
use Rattle.gather.proofs.gather.Goals as goal

pub returns-in_err-count : goal.returns-in_err-count
returns-in_err-count c =
    let a = c.args in
    let p = err_from_is_err_and c.from_residual.result c.from_residual.ensures.1 in
    rw (p.1, p.2)
    (list_refused a.w.now a.base a.first _
    (was_refused (reading a.w.now a.base a.first) 0 (replicate 256 0) c.read_list.new.ds c.in_err-count.field-0.0 c.in_err-count.ensures))

pub slice_bounds-ds-end : goal.slice_bounds-ds-end
slice_bounds-ds-end c =
    let a = c.args in
    let l = c.in_ok-count.field-0 in
    let ds = c.read_list.new.ds in
    let h = was_whole (reading a.w.now a.base a.first) (replicate 256 0) ds l c.in_ok-count.ensures in
    omega (arith, h.1, length-take l.count ds)

pub slice_bounds-finish-end : goal.slice_bounds-finish-end
slice_bounds-finish-end c =
    let a = c.args in
    (was_whole (reading a.w.now a.base a.first) (replicate 256 0) c.read_list.new.ds c.in_ok-count.field-0 c.in_ok-count.ensures).1

pub finish-requires : goal.finish-requires
finish-requires c =
    let a = c.args in
    let l = c.in_ok-count.field-0 in
    let ds = c.read_list.new.ds in
    let h = was_whole (reading a.w.now a.base a.first) (replicate 256 0) ds l c.in_ok-count.ensures in
    let f = found a.w.now a.base a.first l.total (take l.count ds) h.0 in
    (f.readable, f.total, f.below)

pub returns : goal.returns
returns c =
    let a = c.args in
    let l = c.in_ok-count.field-0 in
    let ds = c.read_list.new.ds in
    let h = was_whole (reading a.w.now a.base a.first) (replicate 256 0) ds l c.in_ok-count.ensures in
    c.finish.ensures ∙ list_whole a.w.now a.base a.first (whole l.total (take l.count ds)) h.0
