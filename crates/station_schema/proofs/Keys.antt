-- The orders of the keys that are made of columns.
use Rattle.station_schema.proofs.Common.{IsAntisymmetric, IsTotalOrder, build_cmp, bytes_cmp, count_cmp, expected_cmp, flight_cmp, int_cmp, int_cmp-IsAntisymmetric, int_cmp_total, kept_cmp, kept_text_cmp, pair_cmp, part_cmp, stock_cmp}
use Rattle.station_schema.proofs.OneRow.{pair_total, pair_same, texts_total, texts_same}

pub stock_total : IsTotalOrder stock_cmp
stock_total = pair_total int_cmp int_cmp int_cmp_total int_cmp_total

pub stock_same : IsAntisymmetric stock_cmp
stock_same = pair_same int_cmp int_cmp int_cmp-IsAntisymmetric int_cmp-IsAntisymmetric

pub flight_total : IsTotalOrder flight_cmp
flight_total = pair_total bytes_cmp int_cmp texts_total int_cmp_total

pub flight_same : IsAntisymmetric flight_cmp
flight_same = pair_same bytes_cmp int_cmp texts_same int_cmp-IsAntisymmetric

pub expected_total : IsTotalOrder expected_cmp
expected_total = pair_total bytes_cmp (pair_cmp int_cmp int_cmp) texts_total (pair_total int_cmp int_cmp int_cmp_total int_cmp_total)

pub expected_same : IsAntisymmetric expected_cmp
expected_same = pair_same bytes_cmp (pair_cmp int_cmp int_cmp) texts_same (pair_same int_cmp int_cmp int_cmp-IsAntisymmetric int_cmp-IsAntisymmetric)

pub part_total : IsTotalOrder part_cmp
part_total = pair_total bytes_cmp (pair_cmp int_cmp (pair_cmp bytes_cmp int_cmp)) texts_total (pair_total int_cmp (pair_cmp bytes_cmp int_cmp) int_cmp_total (pair_total bytes_cmp int_cmp texts_total int_cmp_total))

pub part_same : IsAntisymmetric part_cmp
part_same = pair_same bytes_cmp (pair_cmp int_cmp (pair_cmp bytes_cmp int_cmp)) texts_same (pair_same int_cmp (pair_cmp bytes_cmp int_cmp) int_cmp-IsAntisymmetric (pair_same bytes_cmp int_cmp texts_same int_cmp-IsAntisymmetric))

pub kept_total : IsTotalOrder kept_cmp
kept_total = texts_total

pub kept_same : IsAntisymmetric kept_cmp
kept_same = texts_same

pub kept_text_total : IsTotalOrder kept_text_cmp
kept_text_total = texts_total

pub kept_text_same : IsAntisymmetric kept_text_cmp
kept_text_same = texts_same

pub count_total : IsTotalOrder count_cmp
count_total = pair_total int_cmp int_cmp int_cmp_total int_cmp_total

pub count_same : IsAntisymmetric count_cmp
count_same = pair_same int_cmp int_cmp int_cmp-IsAntisymmetric int_cmp-IsAntisymmetric

pub build_total : IsTotalOrder build_cmp
build_total = pair_total bytes_cmp (pair_cmp int_cmp int_cmp) texts_total (pair_total int_cmp int_cmp int_cmp_total int_cmp_total)

pub build_same : IsAntisymmetric build_cmp
build_same = pair_same bytes_cmp (pair_cmp int_cmp int_cmp) texts_same (pair_same int_cmp int_cmp int_cmp-IsAntisymmetric int_cmp-IsAntisymmetric)
