-- What a source that gives bytes at hand holds.
use Rattle.std.specs.Prelude.{ℕ, List}
use Rattle.streamed_documents.specs.declared.slices.SliceSource.{SliceSource}

-- the bytes that are left
abbrev pub slice_bytes : SliceSource → List ℕ
slice_bytes s = s.left.now
