mod RangeRows
