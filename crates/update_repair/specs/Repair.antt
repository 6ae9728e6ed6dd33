-- What repair answers and lists (R27). Its stores are `repair_stores` of
-- crates/record_store_lists/specs/ChangeStores.antt; what must hold of them is said in crates/proof_power_cuts/specs. a
-- is the bytes of the area, s the numbers of the store slice. Assumes nothing.
use Rattle.std.specs.Prelude.{ℕ, List, length}
use Rattle.refusal_order.specs.Decide.{Decision, passed, refusal, decide, Reply, gives, refuses}
use Rattle.record_stores.specs.Stores.{with_list}
use Rattle.record_store_lists.specs.ChangeStores.{repair_stores}
use Rattle.update_admission.specs.Rows.{repair_tests}

-- accepted with a list at the slice's front, or refused with the slice as it was
unfoldable pub repaired_by : Decision → (a s : List ℕ) → Reply ℕ × List ℕ
repaired_by passed a s = (gives (length (repair_stores a)), with_list s (repair_stores a))
repaired_by (refusal number values) a s = (refuses number values, s)

-- the answer, and the store slice afterwards; 20, 23, 21
unfoldable pub repaired : (a s : List ℕ) → Reply ℕ × List ℕ
repaired a s = repaired_by (decide (repair_tests a (length s))) a s
