-- What the code answers for a probe's name.
use Rattle.std.specs.Prelude.{ℕ, ◌≤◌, ◌≡◌}
use Rattle.arrayvec.specs.ArrayVec.{ArrayVec, array_vec_len}
use Rattle.name_search.specs.Probe.{probe_name, probe_most}

pub record IsProbeName (depth : ℕ) (r : ArrayVec ℕ) : Type 0 where
  pub is : r.items ≡ probe_name depth
  pub short : array_vec_len r ≤ probe_most
