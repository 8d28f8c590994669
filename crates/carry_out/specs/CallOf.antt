-- What `carry_out` is given, as a call of a list.
use Rattle.std.specs.Prelude.{ℕ}
use Rattle.entry_set.specs.declared.stamp.Stamps.{Stamps}
use Rattle.write.specs.Calls.{Call, New, Write, SetLength, Remove}
use Rattle.carry_out.specs.declared.carry_out.FileCall.{FileCall}

-- the call without stamps and hint, the stamps, the hint
unfoldable pub call_of : FileCall → Stamps → ℕ → Call
call_of (FileCall.NewFile name attributes hash) t hint = New name.now attributes hash t hint
call_of (FileCall.Write slot offset bs) t hint = Write slot offset bs.now t.modified hint
call_of (FileCall.SetLength slot len) t hint = SetLength slot len t.modified hint
call_of (FileCall.Remove slot) t hint = Remove slot hint
