-- A run that met no fault is done, or wanted memory.
use Rattle.std.proofs.Common.{◌≡◌, ◌⊎◌, inl, inr, refl}
use Rattle.hopf.specs.declared.status.Status.{Status}
use Rattle.hopf.specs.declared.status.Status.TheVariants.{Ok, Refused, Usage, ReadFault, WriteFault, Memory, InputLimit}
use Rattle.hopf.specs.Statuses.{IsDone}

-- a status that is none of the others is that of a run that is done, or want of memory
pub done_or_memory : (s : Status) → (s ≡ Usage → ⊥) → (s ≡ ReadFault → ⊥) → (s ≡ WriteFault → ⊥) → (s ≡ InputLimit → ⊥) → IsDone s ⊎ (s ≡ Memory)
done_or_memory Ok u r w l = inl tt
done_or_memory Refused u r w l = inl tt
done_or_memory Usage u r w l = absurd (u refl)
done_or_memory ReadFault u r w l = absurd (r refl)
done_or_memory WriteFault u r w l = absurd (w refl)
done_or_memory Memory u r w l = inr refl
done_or_memory InputLimit u r w l = absurd (l refl)
