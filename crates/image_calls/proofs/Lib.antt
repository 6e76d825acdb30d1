mod OnImages
