use Rattle.row_codec.proofs.Common.{Built, Delivered, Departed, Free, Hand, Missing, Surplus, Transferred, refl}
use Rattle.row_codec.proofs.counting.sums_by.Goals as goal

pub returns : goal.returns
returns c counts book w rows are Hand = c.sum_by.ensures counts book w rows are refl
returns c counts book w rows are Surplus = c.sum_by-2.ensures counts book w rows are refl
returns c counts book w rows are Free = c.sum_by-3.ensures counts book w rows are refl
returns c counts book w rows are (Built f) = tt
returns c counts book w rows are Departed = c.sum_by-4.ensures counts book w rows are refl
returns c counts book w rows are Delivered = c.sum_by-5.ensures counts book w rows are refl
returns c counts book w rows are Missing = c.sum_by-6.ensures counts book w rows are refl
returns c counts book w rows are Transferred = c.sum_by-7.ensures counts book w rows are refl
