mod PageParts
