use Rattle.std.proofs.Common.{◌+◌, ◌/◌}
use Rattle.overlay_pages.proofs.NumberRows.{all_zeros}
use Rattle.overlay_pages.proofs.sparse.Sparse.new.Goals as goal

pub returns : goal.returns
returns c = all_zeros c.in_ok-rows.rows.items (c.args.count / 8192 + 1) c.args.count c.in_ok-rows.ensures
